-- How the sessions stand in a world: ended, lost, or what each one waits for.
use Rattle.std.specs.List.{list_any}
use Rattle.std.specs.Option.{option_and_then, option_map}
use Rattle.std.specs.Prelude.{Bool, None, Option, Some, [], false, if◌then◌else◌, is_none, is_some, map, nat_lt, true, ℕ, ◌&&◌, ◌==◌, ◌∷◌}
use Rattle.act_rows.specs.Commands.{is_session_state_over}
use Rattle.act_rows.specs.Steps.{entry_of, session_state_of}
use Rattle.part_model.specs.Links.{Inbox, is_held, oldest_in}
use Rattle.part_model.specs.Orders.{is_lower_top}
use Rattle.ignite_types.specs.Names.{same_tx}
use Rattle.ignite_types.specs.declared.journal.Journal.{Journal}
use Rattle.ignite_types.specs.declared.list.List.{List}
use Rattle.ignite_types.specs.declared.message.Wait.{Wait}
use Rattle.ignite_types.specs.declared.names.NodeId.{NodeId}
use Rattle.ignite_types.specs.declared.names.TopVer.{TopVer}
use Rattle.ignite_types.specs.declared.names.TxId.{TxId}
use Rattle.ignite_types.specs.declared.text.Key.{Key}
use Rattle.node_state.specs.declared.near.TxEntry.{TxEntry}
use Rattle.node_state.specs.declared.near.TxState.{TxState}
use Rattle.node_state.specs.declared.life.Life.{Life}
use Rattle.node_state.specs.Node.{NodeState}
use Rattle.node_state.specs.declared.session.SessionState.{SessionState}
use Rattle.tx_model.specs.Opening.{opening}
use Rattle.tx_model.specs.Runs.{world_after}
use Rattle.tx_model.specs.World.{Part, World, inbox_on, is_alive_part, node_ids, part_at, place_of, session_node, sessions}
use Rattle.tx_model.specs.declared.outlook.Outlook.{Outlook}
use Rattle.tx_model.specs.declared.outlook.Standing.{Standing}
use Rattle.node_state.specs.declared.near.TxState.TheVariants as state
use Rattle.node_state.specs.declared.life.Life.TheVariants as life
use Rattle.tx_model.specs.declared.outlook.Standing.TheVariants as standing

abbrev pub or_wait : Option Wait → Option Wait → Option Wait
or_wait None later = later
or_wait (Some wait) later = Some wait

abbrev pub or_standing : Option Standing → Option Standing → Option Standing
or_standing None later = later
or_standing (Some found) later = Some found

-- A transaction in a queue.

-- its wait at a key: it stands there behind the owner
abbrev pub wait_behind : TxId → Key → List TxId → Option Wait
wait_behind tx key [] = None
wait_behind tx key (owner ∷ waiters) =
    if list_any (same_tx tx) waiters then Some (record { key = key; waiter = tx; holder = owner }) else None

-- its first wait in these queues
abbrev pub wait_in : TxId → List (Key × List TxId) → Option Wait
wait_in tx [] = None
wait_in tx (queue ∷ queues) = or_wait (wait_behind tx queue.0 queue.1) (wait_in tx queues)

abbrev pub standing_queued_at : TxId → Part → Option Standing
standing_queued_at tx p = if is_alive_part p then option_map (standing.Queued p.node.me) (wait_in tx p.node.queues) else None

-- the first of these nodes that is alive and has it in a queue
abbrev pub standing_queued_in : TxId → List Part → Option Standing
standing_queued_in tx [] = None
standing_queued_in tx (p ∷ ps) = or_standing (standing_queued_at tx p) (standing_queued_in tx ps)

-- A version that is to open.

abbrev pub is_older : TopVer → Option TopVer → Bool
is_older seen None = false
is_older seen (Some top) = is_lower_top top seen

abbrev pub has_end : TxState → Bool
has_end state.Ended = true
has_end _ = false

-- the transaction has started in an older version, and has not ended
abbrev pub holds_up : TopVer → TxEntry → Bool
holds_up seen e = if has_end e.state then false else is_older seen e.top

-- by session, and then by number
abbrev pub is_earlier : TxId → TxId → Bool
is_earlier a b = if a.session == b.session then nat_lt a.number b.number else nat_lt a.session b.session

abbrev pub earlier_tx : Option TxId → TxId → Option TxId
earlier_tx None tx = Some tx
earlier_tx (Some best) tx = if is_earlier tx best then Some tx else Some best

-- the first of this one and those of these transactions that hold the version up
abbrev pub first_older : TopVer → Option TxId → List (TxId × TxEntry) → Option TxId
first_older seen best [] = best
first_older seen best (t ∷ ts) = first_older seen (if holds_up seen t.1 then earlier_tx best t.0 else best) ts

-- the first of this one and those at these nodes that are alive
abbrev pub older_among : TopVer → Option TxId → List Part → Option TxId
older_among seen best [] = best
older_among seen best (p ∷ ps) = older_among seen (if is_alive_part p then first_older seen best p.node.txs else best) ps

-- what holds up the last version that the node has seen
abbrev pub standing_unopened : TopVer → List Part → Option Standing
standing_unopened seen parts = option_map (standing.Unopened seen) (older_among seen None parts)

-- A held link.

abbrev pub is_kept_back : NodeId → Option Inbox → Bool
is_kept_back from None = false
is_kept_back from (Some inbox) = is_held inbox from && is_some (oldest_in inbox from)

-- the first of these addressees to which this sender's link is held and has a message
abbrev pub held_link_from : World → NodeId → List NodeId → Option Standing
held_link_from w from [] = None
held_link_from w from (to ∷ more) =
    if is_kept_back from (inbox_on w (place_of w to)) then Some (standing.Held from to) else held_link_from w from more

-- the least held link with a message, by sender and addressee
abbrev pub held_link : World → List NodeId → Option Standing
held_link w [] = None
held_link w (from ∷ more) = or_standing (held_link_from w from (node_ids w)) (held_link w more)

-- The standing.

-- a transaction without a version waits for one to open
abbrev pub standing_before_start : World → NodeState → Option TxEntry → Option Standing
standing_before_start w node None = None
standing_before_start w node (Some e) = if is_none e.top then standing_unopened node.seen w.parts else None

abbrev pub standing_by_tx : World → NodeState → Option TxId → Option Standing
standing_by_tx w node None = None
standing_by_tx w node (Some tx) =
    or_standing (standing_queued_in tx w.parts) (standing_before_start w node (entry_of node tx))

abbrev pub standing_or_busy : Option Standing → Standing
standing_or_busy None = standing.Busy
standing_or_busy (Some found) = found

-- what a session that has not ended waits for
abbrev pub standing_of_waiting : World → NodeState → Option TxId → Standing
standing_of_waiting w node tx = standing_or_busy (or_standing (standing_by_tx w node tx) (held_link w (node_ids w)))

abbrev pub standing_unless_lost : World → NodeState → Life → Option TxId → Standing
standing_unless_lost w node life.Gone tx = standing.Lost node.me
standing_unless_lost w node _ tx = standing_of_waiting w node tx

abbrev pub standing_of_session_state : World → NodeState → Life → Option SessionState → Standing
standing_of_session_state w node life None = standing.Ended
standing_of_session_state w node life (Some d) =
    if is_session_state_over d then standing.Ended else standing_unless_lost w node life d.tx

abbrev pub standing_at : World → ℕ → Option Part → Standing
standing_at w session None = standing.Ended
standing_at w session (Some p) = standing_of_session_state w p.node p.life (session_state_of p.node session)

-- how the session stands
abbrev pub standing_of : World → ℕ → Standing
standing_of w session = standing_at w session (option_and_then (part_at w) (session_node w session))

-- what the world shows beside its journal
abbrev pub outlook : World → Outlook
outlook w = record { standings = map (standing_of w) (sessions w); events = w.directory.events }

-- what the world at a journal's end shows
abbrev pub outlook_of : Journal → Outlook
outlook_of j = outlook (world_after (opening j.scenario) j.groups)
