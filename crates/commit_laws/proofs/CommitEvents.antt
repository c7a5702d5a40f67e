-- Each event keeps that what ends a transaction as committed stands behind its commit decision.
use Rattle.std.proofs.Common.{◌≡◌, ◌<◌, ◌^◌, ◌++◌, ◌&&◌, ◌||◌, ℕ, List, [], ◌∷◌, Bool, true, false, if◌then◌else◌, Option, Some, None, refl, ap, sym, subst, ◌∙◌}
use Rattle.std.specs.List.{list_all, list_any}
use Rattle.std.specs.Prelude.{drop, fold, suc}
use Rattle.act_rows.specs.Acts.{after_message, after_see}
use Rattle.act_rows.specs.Closing.{after_closing_rules}
use Rattle.act_rows.specs.Commands.{after_answer, after_call}
use Rattle.act_rows.specs.Decisions.{is_committing}
use Rattle.act_rows.specs.Exchange.{after_learn}
use Rattle.act_rows.specs.Searches.{after_expire}
use Rattle.commit_laws.proofs.CommitRecords.{Known, commit_kit, committed_more, message_more, messages_more, outs_more}
use Rattle.commit_laws.proofs.CommitRows.{message_kept, see_kept}
use Rattle.commit_laws.proofs.HolderWalks.{closed_kept}
use Rattle.commit_laws.proofs.StarterWalks.{answer_row_kept, call_row_kept, expire_row_kept}
use Rattle.commit_laws.specs.CommitFacts.{CommitInvariant, CommitsFit, FaceFits, KeepsCommits, OutboxFits, is_backed, is_backed_out, is_committed_one}
use Rattle.commit_laws.specs.CommitLaws.{is_committed_record}
use Rattle.commit_laws.specs.CommitSteps.{CommitFace, EntriesCommitted, commit_face, committed_by}
use Rattle.frame_laws.proofs.Extending.{append_none}
use Rattle.ignite_types.specs.Names.{same_node, same_tx}
use Rattle.ignite_types.specs.declared.journal.Rec.{Rec}
use Rattle.ignite_types.specs.declared.journal.TopoEvent.{TopoEvent}
use Rattle.ignite_types.specs.declared.message.Message.{Message}
use Rattle.ignite_types.specs.declared.message.Out.{Out}
use Rattle.ignite_types.specs.declared.names.NodeId.{NodeId}
use Rattle.ignite_types.specs.declared.names.TxId.{TxId}
use Rattle.ignite_types.specs.declared.scenario.Member.{Member}
use Rattle.ignite_types.specs.declared.scenario.Scenario.{Scenario}
use Rattle.journal_statements.specs.Noted.{Noted, each_from, is_committed_before, is_commit_in, noted_by, recs_of}
use Rattle.link_laws.proofs.Journals.{each_both, first_rest}
use Rattle.node_state.specs.Node.{NodeState}
use Rattle.node_state.specs.declared.near.TxEntry.{TxEntry}
use Rattle.node_state.specs.declared.near.TxState.{TxState}
use Rattle.node_state.specs.declared.session.SessionState.{SessionState}
use Rattle.part_model.specs.Directory.{with_answer_given}
use Rattle.part_model.specs.Orders.{is_node}
use Rattle.scenes.specs.Events.{EachEventLeads, IsReady, joiner_end, joiner_start}
use Rattle.scenes.specs.Scenes.{Scene, one_record, opening_scene, plan_records, scene_after_drop, scene_after_join, scene_after_loss, scene_after_send, scene_after_take, scene_in_act, scene_with_directory, scene_with_records, state_at_rest}
use Rattle.topology_laws.proofs.Records.{or_second}
use Rattle.transaction_laws.proofs.LeavesStarters.{all_of_both}
use Rattle.transaction_laws.proofs.StarterEvents.{ready_next, starters_lead, starters_open}
use Rattle.transaction_laws.specs.StarterFacts.{EntryFits, EntryFitsAt, StarterFits, decided_as, decisions}
use Rattle.ignite_types.specs.declared.journal.Rec.TheVariants as note
use Rattle.ignite_types.specs.declared.journal.TopoEvent.TheVariants as topo
use Rattle.node_state.specs.declared.near.TxState.TheVariants as state

-- A transaction that is being committed was decided so.

abbrev has_commit : List Bool → Bool
has_commit ds = list_any (λ (d : Bool). d) ds

committed_of : (n : NodeId) (tx : TxId) (recs : List Noted) → has_commit (decisions tx (recs_of n recs)) ≡ true →
    is_committed_before recs tx ≡ true
committed_of n tx [] none = absurd (cc (none))
committed_of n tx (x ∷ xs) is = by (committed_of n tx xs) (is_node n x.node) x.rec is
  where
    decided : (has_commit (decisions tx (recs_of n xs)) ≡ true → is_committed_before xs tx ≡ true) → (same commit : Bool) →
        has_commit ((if same then commit ∷ [] else []) ++ decisions tx (recs_of n xs)) ≡ true →
        ((same && commit) || is_committed_before xs tx) ≡ true
    decided later true true rest = refl
    decided later true false rest = later rest
    decided later false commit rest = later rest

    by : (has_commit (decisions tx (recs_of n xs)) ≡ true → is_committed_before xs tx ≡ true) → (own : Bool) (r : Rec) →
        has_commit (decisions tx ((if own then r ∷ [] else []) ++ recs_of n xs)) ≡ true →
        (is_commit_in tx r || is_committed_before xs tx) ≡ true
    by later false r rest = or_second (is_commit_in tx r) (is_committed_before xs tx) (later rest)
    by later true (note.Decide u commit) rest = decided later (same_tx u tx) commit rest
    by later true _ rest = later rest

committing_is : (st : TxState) → is_committing st ≡ true → decided_as st ≡ true ∷ []
committing_is state.Committing is = refl
committing_is state.Idle is = absurd (cc (is))
committing_is state.Active is = absurd (cc (is))
committing_is state.Waiting is = absurd (cc (is))
committing_is state.Searching is = absurd (cc (is))
committing_is state.Preparing is = absurd (cc (is))
committing_is state.RollingBack is = absurd (cc (is))
committing_is state.Ended is = absurd (cc (is))

entries_known : (recs : List Noted) (n : NodeId) (txs : List (TxId × TxEntry)) (session_states : List (ℕ × SessionState)) →
    StarterFits n (recs_of n recs) txs session_states → EntriesCommitted (λ (tx : TxId). is_committed_before recs tx ≡ true) txs
entries_known recs n txs session_states f tx e there committing =
    let fit : EntryFits n (recs_of n recs) _ tx e = subst (EntryFitsAt n (recs_of n recs) _ tx) there (f.entries tx) in
    committed_of n tx recs (ap has_commit (fit.decided ∙ committing_is e.state committing))

known_one : (recs : List Noted) (o : Option TxId) → is_committed_one recs o ≡ true → (tx : TxId) → o ≡ Some tx →
    is_committed_before recs tx ≡ true
known_one recs o backed tx is = subst (λ (x : Option TxId). is_committed_one recs x ≡ true) is backed

-- A node acts.

-- as it begins
begins : (sc : Scene) (n : NodeId) (s : NodeState) → s.noted ≡ [] → sc.state n ≡ state_at_rest s → CommitsFit sc →
    FaceFits sc.recs n (commit_face s)
begins sc n s none is f =
    let outs : list_all (is_backed_out sc.recs) s.outbox ≡ true =
    subst (λ (x : NodeState). list_all (is_backed_out sc.recs) x.outbox ≡ true) is (f.outs n) in
    let now : OutboxFits sc.recs s.outbox = record { outs = outs; applied = f.applied } in
    subst (λ (rs : List Rec). OutboxFits (sc.recs ++ noted_by (Some n) rs) s.outbox) (sym none)
    (subst (λ (rs : List Noted). OutboxFits rs s.outbox) (sym (append_none sc.recs)) now)

ends : (sc : Scene) (n : NodeId) (b : NodeState) → FaceFits sc.recs n (commit_face b) → CommitsFit sc →
    CommitsFit (scene_in_act sc n b)
ends sc n b face f = record {
  outs = λ m. by m (same_node n m);
  links = λ x y. messages_more sc.recs (noted_by (Some n) b.noted) (sc.link x y) (f.links x y);
  applied = face.applied;
}
  where
    recs : List Noted
    recs = sc.recs ++ noted_by (Some n) b.noted

    by : (m : NodeId) (c : Bool) → list_all (is_backed_out recs) (if c then b.outbox else (sc.state m).outbox) ≡ true
    by m true = face.outs
    by m false = outs_more sc.recs (noted_by (Some n) b.noted) (sc.state m).outbox (f.outs m)

acts : (sc : Scene) (n : NodeId) (s b : NodeState) → IsReady sc n s → KeepsCommits sc.recs n s b → CommitsFit sc →
    CommitsFit (scene_in_act sc n b)
acts sc n s b r keeps f = ends sc n b (keeps (begins sc n s r.none_noted r.state_is f)) f

-- a row, and the closing rules
closes : (recs : List Noted) (n : NodeId) (s b : NodeState) → KeepsCommits recs n s b →
    KeepsCommits recs n s (after_closing_rules b)
closes recs n s b keeps f = closed_kept (Known recs n) (KeepsCommits recs n) (commit_kit recs n) b (keeps f)

-- more records
more_records : (sc : Scene) (more : List Noted) → each_from is_committed_record sc.recs more ≡ true → CommitsFit sc →
    CommitsFit (scene_with_records sc more)
more_records sc more fit f = record {
  outs = λ n. outs_more sc.recs more (sc.state n).outbox (f.outs n);
  links = λ a b. messages_more sc.recs more (sc.link a b) (f.links a b);
  applied = each_both is_committed_record [] sc.recs more f.applied fit;
}

-- Messages.

rest_backed : (recs : List Noted) (ms : List Message) → list_all (is_backed recs) ms ≡ true →
    list_all (is_backed recs) (drop 1 ms) ≡ true
rest_backed recs [] all = refl
rest_backed recs (m ∷ ms) all = (first_rest (is_backed recs m) (list_all (is_backed recs) ms) all).1

rest_outs : (recs : List Noted) (os : List Out) → list_all (is_backed_out recs) os ≡ true →
    list_all (is_backed_out recs) (drop 1 os) ≡ true
rest_outs recs [] all = refl
rest_outs recs (o ∷ os) all = (first_rest (is_backed_out recs o) (list_all (is_backed_out recs) os) all).1

on_link : (sc : Scene) (from n : NodeId) (m : Message) → sc.link from n ≡ m ∷ drop 1 (sc.link from n) → CommitsFit sc →
    is_backed sc.recs m ≡ true
on_link sc from n m first f =
    (first_rest (is_backed sc.recs m) (list_all (is_backed sc.recs) (drop 1 (sc.link from n)))
    (subst (λ (ms : List Message). list_all (is_backed sc.recs) ms ≡ true) first (f.links from n))).0

took : (sc : Scene) (from n : NodeId) (m : Message) → CommitsFit sc → CommitsFit (scene_after_take sc from n m)
took sc from n m f =
    let told = more_records sc (one_record (Some n) (note.Deliver from m)) refl f in
    record {
      outs = told.outs;
      links = λ a b. by a b (same_node from a && same_node n b) (told.links a b);
      applied =
          told.applied;
    }
  where
    by : (a b : NodeId) (c : Bool) → list_all (is_backed (sc.recs ++ one_record (Some n) (note.Deliver from m))) (sc.link a b)
        ≡ true → list_all (is_backed (sc.recs ++ one_record (Some n) (note.Deliver from m)))
        (if c then drop 1 (sc.link a b) else sc.link a b) ≡ true
    by a b true all = rest_backed (sc.recs ++ one_record (Some n) (note.Deliver from m)) (sc.link a b) all
    by a b false all = all

oldest_backed : (sc : Scene) (n : NodeId) (s : NodeState) (out : Out) → IsReady sc n s → s.outbox ≡ out ∷ drop 1 s.outbox →
    CommitsFit sc → is_backed sc.recs out.msg ≡ true
oldest_backed sc n s out r first f =
    let all : list_all (is_backed_out sc.recs) s.outbox ≡ true =
    subst (λ (x : NodeState). list_all (is_backed_out sc.recs) x.outbox ≡ true) r.state_is (f.outs n) in
    (first_rest (is_backed_out sc.recs out) (list_all (is_backed_out sc.recs) (drop 1 s.outbox))
    (subst (λ (os : List Out). list_all (is_backed_out sc.recs) os ≡ true) first all)).0

sent_on : (sc : Scene) (n : NodeId) (out : Out) → is_backed sc.recs out.msg ≡ true → CommitsFit sc →
    CommitsFit (scene_after_send sc n out)
sent_on sc n out backed f =
    let told = more_records sc one refl f in
    record {
      outs = told.outs;
      links = λ a b. by a b (same_node n a && same_node out.to b) (told.links a b);
      applied =
          told.applied;
    }
  where
    one : List Noted
    one = one_record (Some n) (note.Sent out.to out.msg)

    by : (a b : NodeId) (c : Bool) → list_all (is_backed (sc.recs ++ one)) (sc.link a b) ≡ true →
        list_all (is_backed (sc.recs ++ one)) (if c then sc.link a b ++ out.msg ∷ [] else sc.link a b) ≡ true
    by a b true all = all_of_both (is_backed (sc.recs ++ one)) (sc.link a b) (out.msg ∷ []) all
        (rw (message_more sc.recs one out.msg backed) refl)
    by a b false all = all

-- the oldest message has left the outbox
without_first : (sc : Scene) (n : NodeId) (s : NodeState) → IsReady sc n s → CommitsFit sc →
    CommitsFit (scene_in_act sc n (record s { outbox = drop 1 s.outbox }))
without_first sc n s r f = acts sc n s (record s { outbox = drop 1 s.outbox }) r
    (λ face. record { outs = rest_outs (sc.recs ++ noted_by (Some n) s.noted) s.outbox face.outs; applied = face.applied }) f

-- Events.

module _ (k : ℕ) (few : k < 2 ^ 62) where
  answers_kept : (sc : Scene) (n : NodeId) (s : NodeState) (session : ℕ) → IsReady sc n s → CommitInvariant k sc →
      CommitsFit (scene_in_act (scene_with_directory sc (with_answer_given sc.directory)) n (after_answer s session))
  answers_kept sc n s session r i =
      let next = scene_with_directory sc (with_answer_given sc.directory) in
      let f : CommitsFit next = record { outs = i.commits.outs; links = i.commits.links; applied = i.commits.applied } in
      acts next n s (after_answer s session) (ready_next sc next n s refl refl r)
      (answer_row_kept (Known sc.recs n) (KeepsCommits sc.recs n) (commit_kit sc.recs n) s session) f

  calls_kept : (sc : Scene) (n : NodeId) (s : NodeState) (session : ℕ) → IsReady sc n s → CommitInvariant k sc →
      CommitsFit (scene_in_act sc n (after_closing_rules (after_call s session)))
  calls_kept sc n s session r i =
      let row = after_call s session in
      acts sc n s (after_closing_rules row) r
      (closes sc.recs n s row (call_row_kept (Known sc.recs n) (KeepsCommits sc.recs n) (commit_kit sc.recs n) s session))
      i.commits

  expires_kept : (sc : Scene) (n : NodeId) (s : NodeState) (tx : TxId) → IsReady sc n s → CommitInvariant k sc →
      CommitsFit (scene_in_act sc n (after_closing_rules (after_expire s tx)))
  expires_kept sc n s tx r i =
      let row = after_expire s tx in
      acts sc n s (after_closing_rules row) r
      (closes sc.recs n s row (expire_row_kept (Known sc.recs n) (KeepsCommits sc.recs n) (commit_kit sc.recs n) s tx))
      i.commits

  -- a node's own entries
  own_entries : (sc : Scene) (n : NodeId) (s : NodeState) → sc.state n ≡ state_at_rest s → CommitInvariant k sc →
      EntriesCommitted (Known sc.recs n) s.txs
  own_entries sc n s is i =
      entries_known sc.recs n s.txs s.session_states
      (subst (λ (x : NodeState). StarterFits n (recs_of n sc.recs) x.txs x.session_states) is (i.starters.nodes n).starter)

  sees_kept : (sc : Scene) (n : NodeId) (s : NodeState) (e : TopoEvent) → IsReady sc n s → CommitInvariant k sc →
      CommitsFit (scene_in_act sc n (after_closing_rules (after_see s s.read e)))
  sees_kept sc n s e r i =
      let row = after_see s s.read e in
      acts sc n s (after_closing_rules row) r
      (closes sc.recs n s row (see_kept (Known sc.recs n) (KeepsCommits sc.recs n) (commit_kit sc.recs n) s s.read e
      (own_entries sc n s r.state_is i))) i.commits

  takes_kept : (sc : Scene) (n : NodeId) (s : NodeState) (from : NodeId) (m : Message) → IsReady sc n s →
      sc.link from n ≡ m ∷ drop 1 (sc.link from n) → CommitInvariant k sc →
      CommitsFit (scene_in_act (scene_after_take sc from n m) n (after_closing_rules (after_message s from m)))
  takes_kept sc n s from m r first i =
      let next = scene_after_take sc from n m in
      let backed : is_backed next.recs m ≡ true = message_more sc.recs (one_record (Some n) (note.Deliver from m)) m
      (on_link sc from n m first i.commits) in
      let known : (tx : TxId) → committed_by m ≡ Some tx → is_committed_before next.recs tx ≡ true =
      λ tx is. known_one next.recs (committed_by m) backed tx is in
      let row = after_message s from m in
      acts next n s (after_closing_rules row) (ready_next sc next n s refl refl r)
      (closes next.recs n s row (message_kept (Known next.recs n) (KeepsCommits next.recs n) (commit_kit next.recs n) s
      from m known)) (took sc from n m i.commits)

  -- A node joins.

  learned : (es : List TopoEvent) (s : NodeState) → commit_face (fold after_learn s es) ≡ commit_face s
  learned [] s = refl
  learned (e ∷ es) s = learned es (after_learn s e)

  learned_txs : (es : List TopoEvent) (s : NodeState) → (fold after_learn s es).txs ≡ s.txs
  learned_txs [] s = refl
  learned_txs (e ∷ es) s = learned_txs es (after_learn s e)

  joins_kept : (sc : Scene) (m : Member) (s : NodeState) → sc.state m.node ≡ state_at_rest s → CommitInvariant k sc →
      CommitsFit (scene_in_act (scene_after_join sc m) m.node (joiner_end sc m s))
  joins_kept sc m s is i =
      let next = scene_after_join sc m in
      let plan = plan_records sc None in
      let more = more_records sc plan refl i.commits in
      let there : CommitsFit next = record { outs = more.outs; links = more.links; applied = more.applied } in
      let start = joiner_start sc s in
      let row = after_see start start.read (topo.Join m) in
      let outs : list_all (is_backed_out next.recs) s.outbox ≡ true =
      subst (λ (x : NodeState). list_all (is_backed_out next.recs) x.outbox ≡ true) is (there.outs m.node) in
      let now : OutboxFits (next.recs ++ []) s.outbox = subst (λ (rs : List Noted). OutboxFits rs s.outbox)
      (sym (append_none next.recs)) (record { outs = outs; applied = there.applied }) in
      let first : FaceFits next.recs m.node (commit_face start) =
      subst (λ (x : CommitFace). OutboxFits (next.recs ++ []) x.outbox) (sym (learned sc.directory.events s)) now in
      let before : StarterFits m.node (recs_of m.node sc.recs) s.txs s.session_states =
      subst (λ (x : NodeState). StarterFits m.node (recs_of m.node sc.recs) x.txs x.session_states) is
      (i.starters.nodes m.node).starter in
      let known : EntriesCommitted (Known next.recs m.node) s.txs = λ tx e here committing. committed_more sc.recs plan tx
      (entries_known sc.recs m.node s.txs s.session_states before tx e here committing) in
      let entries : EntriesCommitted (Known next.recs m.node) start.txs = subst (EntriesCommitted (Known next.recs m.node))
      (sym (learned_txs sc.directory.events s)) known in
      ends next m.node (after_closing_rules row)
      (closes next.recs m.node start row (see_kept (Known next.recs m.node) (KeepsCommits next.recs m.node)
      (commit_kit next.recs m.node) start start.read (topo.Join m) entries) first) there

  loses_kept : (sc : Scene) (n : NodeId) → CommitInvariant k sc → CommitsFit (scene_after_loss sc n)
  loses_kept sc n i = record {
    outs = λ m. told.outs m;
    links = λ a b. by a b (same_node n a || same_node n b);
    applied = told.applied;
  }
    where
      more : List Noted
      more = plan_records sc None ++ one_record None (note.Lost n)

      told : CommitsFit (scene_with_records sc more)
      told = more_records sc more refl i.commits

      by : (a b : NodeId) (c : Bool) → list_all (is_backed (sc.recs ++ more)) (if c then [] else sc.link a b) ≡ true
      by a b true = refl
      by a b false = told.links a b

  pub commits_lead : EachEventLeads (CommitInvariant k) (CommitInvariant (suc k))
  commits_lead =
      let lead = starters_lead k few in
      record {
        answers = λ sc n s session sound r may i. record {
          starters = lead.answers sc n s session sound r may i.starters;
          commits = answers_kept sc n s session r i;
        };
        calls = λ sc n s session sound r may i. record {
          starters = lead.calls sc n s session sound r may i.starters;
          commits = calls_kept sc n s session r i;
        };
        takes = λ sc n s from m sound r first i. record {
          starters = lead.takes sc n s from m sound r first i.starters;
          commits = takes_kept sc n s from m r first i;
        };
        expires = λ sc n s tx sound r own due i. record {
          starters = lead.expires sc n s tx sound r own due i.starters;
          commits = expires_kept sc n s tx r i;
        };
        sees = λ sc n s e sound r there i. record {
          starters = lead.sees sc n s e sound r there i.starters;
          commits =
              sees_kept sc n s e r i;
        };
        switches = λ sc n s sound r may same i. record {
          starters = lead.switches sc n s sound r may same i.starters;
          commits = record { outs = i.commits.outs; links = i.commits.links; applied = i.commits.applied };
        };
        moves = λ sc n s out sound r first i. record {
          starters = lead.moves sc n s out sound r first i.starters;
          commits = let next = scene_after_send sc n out in without_first next n s (ready_next sc next n s refl refl r)
              (sent_on sc n out (oldest_backed sc n s out r first i.commits) i.commits);
        };
        drops = λ sc n s out sound r first away i. record {
          starters = lead.drops sc n s out sound r first away i.starters;
          commits = let next = scene_after_drop sc n out in without_first next n s (ready_next sc next n s refl refl r)
              (more_records sc (one_record (Some n) (note.Sent out.to out.msg)) refl i.commits);
        };
        joins = λ sc m s sound absent new is i. record {
          starters = lead.joins sc m s sound absent new is i.starters;
          commits = joins_kept sc m s is i;
        };
        loses = λ sc n sound alive i. record { starters = lead.loses sc n sound alive i.starters; commits = loses_kept sc n i };
        plans = λ sc refused sound i. record {
          starters = lead.plans sc refused sound i.starters;
          commits = let f =
              more_records sc (plan_records sc refused) refl i.commits in record {
                outs = f.outs;
                links = f.links;
                applied =
                    f.applied;
              };
        };
        starts = λ sc e sound is i. record {
          starters = lead.starts sc e sound is i.starters;
          commits = let f =
              more_records sc (plan_records sc None) refl i.commits in record {
                outs = f.outs;
                links = f.links;
                applied =
                    f.applied;
              };
        };
        ticks = λ sc to sound i. record {
          starters = lead.ticks sc to sound i.starters;
          commits = let f =
              more_records sc (one_record None (note.Tick to)) refl i.commits in record {
                outs = λ m. f.outs m;
                links = f.links;
                applied = f.applied;
              };
        };
        breaks = λ sc n sound i. record {
          starters = lead.breaks sc n sound i.starters;
          commits =
              more_records sc (one_record (Some n) note.Memory) refl i.commits;
        };
      }

pub commits_open : (s : Scenario) → CommitInvariant 0 (opening_scene s)
commits_open s = record {
  starters = starters_open s;
  commits = record {
    outs = λ n. refl;
    links = λ a b. refl;
    applied =
        refl;
  };
}
