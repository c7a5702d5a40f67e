-- What one more record says of links.
use Rattle.std.proofs.Common.{◌≡◌, ◌++◌, ◌||◌, List, [], ◌∷◌, Some, Bool, false, if◌then◌else◌, ap, ◌∙◌}
use Rattle.std.specs.List.{flat_map}
use Rattle.frame_laws.proofs.Extending.{append_none}
use Rattle.part_model.specs.Orders.{is_node}
use Rattle.ignite_types.proofs.NameLaws.{same_node_itself}
use Rattle.ignite_types.specs.Names.{same_node}
use Rattle.ignite_types.specs.declared.journal.Rec.{Rec}
use Rattle.ignite_types.specs.declared.message.Message.{Message}
use Rattle.ignite_types.specs.declared.names.NodeId.{NodeId}
use Rattle.ignite_types.specs.declared.scenario.PlanStep.{PlanStep}
use Rattle.journal_statements.specs.LinkRecords.{hold_after_rec, is_link_held, message_sent, message_taken, sent_on, taken_on}
use Rattle.journal_statements.specs.Noted.{Noted, is_lost, is_lost_in, rec_of}
use Rattle.link_laws.proofs.Journals.{hold_parts, lost_parts, one_sent, one_taken, or_none, sent_parts, taken_parts}
use Rattle.ignite_types.specs.declared.journal.Rec.TheVariants as note

pub more_sent : (from to : NodeId) (ns : List Noted) (n : Noted) (ms : List Message) →
    flat_map (message_sent to) (rec_of from n) ≡ ms → sent_on from to (ns ++ n ∷ []) ≡ sent_on from to ns ++ ms
more_sent from to ns n ms is =
    sent_parts from to ns (n ∷ []) ∙ ap (λ (rs : List Message). sent_on from to ns ++ rs)
    (ap (λ (rs : List Rec). flat_map (message_sent to) rs) (append_none (rec_of from n)) ∙ is)

pub more_taken : (from to : NodeId) (ns : List Noted) (n : Noted) (ms : List Message) →
    flat_map (message_taken from) (rec_of to n) ≡ ms → taken_on from to (ns ++ n ∷ []) ≡ taken_on from to ns ++ ms
more_taken from to ns n ms is =
    taken_parts from to ns (n ∷ []) ∙ ap (λ (rs : List Message). taken_on from to ns ++ rs)
    (ap (λ (rs : List Rec). flat_map (message_taken from) rs) (append_none (rec_of to n)) ∙ is)

pub no_more_sent : (from to : NodeId) (ns : List Noted) (n : Noted) → message_sent to n.rec ≡ [] →
    sent_on from to (ns ++ n ∷ []) ≡ sent_on from to ns
no_more_sent from to ns n none = more_sent from to ns n [] (one_sent from to n none) ∙ append_none (sent_on from to ns)

pub no_more_taken : (from to : NodeId) (ns : List Noted) (n : Noted) → message_taken from n.rec ≡ [] →
    taken_on from to (ns ++ n ∷ []) ≡ taken_on from to ns
no_more_taken from to ns n none = more_taken from to ns n [] (one_taken from to n none) ∙ append_none (taken_on from to ns)

-- another node has noted it
pub sent_elsewhere : (from to : NodeId) (ns : List Noted) (n : Noted) → is_node from n.node ≡ false →
    sent_on from to (ns ++ n ∷ []) ≡ sent_on from to ns
sent_elsewhere from to ns n other =
    more_sent from to ns n [] (ap (λ (b : Bool). flat_map (message_sent to) (if b then n.rec ∷ [] else [])) other)
    ∙ append_none (sent_on from to ns)

pub taken_elsewhere : (from to : NodeId) (ns : List Noted) (n : Noted) → is_node to n.node ≡ false →
    taken_on from to (ns ++ n ∷ []) ≡ taken_on from to ns
taken_elsewhere from to ns n other =
    more_taken from to ns n [] (ap (λ (b : Bool). flat_map (message_taken from) (if b then n.rec ∷ [] else [])) other)
    ∙ append_none (taken_on from to ns)

pub no_more_lost : (ns : List Noted) (n : Noted) (node : NodeId) → is_lost_in node n.rec ≡ false →
    is_lost (ns ++ n ∷ []) node ≡ is_lost ns node
no_more_lost ns n node none = lost_parts ns (n ∷ []) node ∙ ap (λ (b : Bool). is_lost ns node || (b || false)) none
    ∙ or_none (is_lost ns node)

pub more_held : (plan : List PlanStep) (from to : NodeId) (ns : List Noted) (n : Noted) →
    is_link_held plan from to (ns ++ n ∷ []) ≡ hold_after_rec plan from to (is_link_held plan from to ns) n.rec
more_held plan from to ns n = hold_parts plan from to false ns (n ∷ [])

-- The record of a message that is taken.

abbrev pub taking : NodeId → NodeId → Message → Noted
taking id from m = record { node = Some id; rec = note.Deliver from m }

pub taken_there : (from id : NodeId) (ns : List Noted) (m : Message) → taken_on from id (ns ++ taking id from m ∷ [])
    ≡ taken_on from id ns ++ m ∷ []
taken_there from id ns m =
    more_taken from id ns (taking id from m) (m ∷ [])
    (ap (λ (b : Bool). flat_map (message_taken from) (if b then note.Deliver from m ∷ [] else [])) (same_node_itself id)
    ∙ ap (λ (b : Bool). (if b then m ∷ [] else []) ++ []) (same_node_itself from))

-- The record of a message that is sent.

abbrev pub sending : NodeId → NodeId → Message → Noted
sending id to m = record { node = Some id; rec = note.Sent to m }

pub sent_there : (id to : NodeId) (ns : List Noted) (m : Message) → sent_on id to (ns ++ sending id to m ∷ [])
    ≡ sent_on id to ns ++ m ∷ []
sent_there id to ns m =
    more_sent id to ns (sending id to m) (m ∷ [])
    (ap (λ (b : Bool). flat_map (message_sent to) (if b then note.Sent to m ∷ [] else [])) (same_node_itself id)
    ∙ ap (λ (b : Bool). (if b then m ∷ [] else []) ++ []) (same_node_itself to))

pub not_taken_from : (from x : NodeId) (m : Message) → same_node from x ≡ false → message_taken x (note.Deliver from m) ≡ []
not_taken_from from x m other = ap (λ (b : Bool). if b then m ∷ [] else []) other

pub not_sent_to : (to x : NodeId) (m : Message) → same_node to x ≡ false → message_sent x (note.Sent to m) ≡ []
not_sent_to to x m other = ap (λ (b : Bool). if b then m ∷ [] else []) other
