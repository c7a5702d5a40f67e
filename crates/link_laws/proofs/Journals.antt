-- Journals in parts, and records that say nothing of links.
use Rattle.std.proofs.Common.{◌≡◌, ◌++◌, ◌&&◌, ◌||◌, List, [], ◌∷◌, Option, Some, Bool, true, false, if◌then◌else◌, refl, ap, sym, ◌∙◌}
use Rattle.std.specs.List.{flat_map, list_all}
use Rattle.std.proofs.lemmas.Grind.{flat_map-append}
use Rattle.std.proofs.lemmas.List.Folds.{list_any-append}
use Rattle.std.proofs.Math.Bool.{and_assoc}
use Rattle.frame_laws.specs.Extending.{is_own}
use Rattle.frame_laws.proofs.Extending.{append_none, append_twice}
use Rattle.part_model.specs.Orders.{is_node}
use Rattle.ignite_types.specs.declared.journal.Rec.{Rec}
use Rattle.ignite_types.specs.declared.names.NodeId.{NodeId}
use Rattle.ignite_types.specs.declared.scenario.PlanStep.{PlanStep}
use Rattle.journal_statements.specs.LinkRecords.{delivery_fits, hold_after_rec, hold_over, is_link_held, message_sent, message_taken, sent_on, taken_on}
use Rattle.journal_statements.specs.Noted.{Noted, each_from, is_lost, is_lost_in, noted_by, rec_of, recs_of}
use Rattle.link_laws.specs.Carrying.{SayTheSame, fits, is_calm}
use Rattle.ignite_types.specs.declared.journal.Rec.TheVariants as note

-- Parts of a journal.

pub sent_parts : (from to : NodeId) (ns ms : List Noted) → sent_on from to (ns ++ ms) ≡ sent_on from to ns ++ sent_on from to ms
sent_parts from to ns ms = ap (λ rs. flat_map (message_sent to) rs) (flat_map-append (rec_of from) ns ms)
    ∙ flat_map-append (message_sent to) (recs_of from ns) (recs_of from ms)

pub taken_parts : (from to : NodeId) (ns ms : List Noted) → taken_on from to (ns ++ ms) ≡ taken_on from to ns
    ++ taken_on from to ms
taken_parts from to ns ms = ap (λ rs. flat_map (message_taken from) rs) (flat_map-append (rec_of to) ns ms)
    ∙ flat_map-append (message_taken from) (recs_of to ns) (recs_of to ms)

pub lost_parts : (ns ms : List Noted) (node : NodeId) → is_lost (ns ++ ms) node ≡ (is_lost ns node || is_lost ms node)
lost_parts ns ms node = list_any-append (λ (n : Noted). is_lost_in node n.rec) ns ms

pub hold_parts : (plan : List PlanStep) (from to : NodeId) (now : Bool) (ns ms : List Noted) →
    hold_over plan from to now (ns ++ ms) ≡ hold_over plan from to (hold_over plan from to now ns) ms
hold_parts plan from to now [] ms = refl
hold_parts plan from to now (n ∷ ns) ms = hold_parts plan from to (hold_after_rec plan from to now n.rec) ns ms

pub each_parts : (test : List Noted → Noted → Bool) (before ns ms : List Noted) →
    each_from test before (ns ++ ms) ≡ (each_from test before ns && each_from test (before ++ ns) ms)
each_parts test before [] ms = ap (λ b. each_from test b ms) (sym (append_none before))
each_parts test before (n ∷ ns) ms =
    ap (λ r. test before n && r) (each_parts test (before ++ n ∷ []) ns ms ∙ ap (λ b. each_from test (before ++ n ∷ []) ns
    && each_from test b ms) (append_twice before (n ∷ []) ns))
    ∙ sym (and_assoc (test before n) (each_from test (before ++ n ∷ []) ns) (each_from test (before ++ (n ∷ ns)) ms))

-- both parts pass
pub each_both : (test : List Noted → Noted → Bool) (before ns ms : List Noted) → each_from test before ns ≡ true →
    each_from test (before ++ ns) ms ≡ true → each_from test before (ns ++ ms) ≡ true
each_both test before ns ms first second = each_parts test before ns ms ∙ (rw (first, second) refl)

-- Calm records.

pub own_is_calm : (r : Rec) → is_own r ≡ true → is_calm r ≡ true
own_is_calm (note.Sent to message) own = own
own_is_calm (note.Deliver from message) own = own
own_is_calm (note.Lost node) own = own
own_is_calm (note.Planned place refused) own = own
own_is_calm _ own = refl

calm_sent_in : (to : NodeId) (r : Rec) → is_calm r ≡ true → message_sent to r ≡ []
calm_sent_in to (note.Sent addressee message) calm = absurd (cc)
calm_sent_in to _ calm = refl

calm_taken_in : (from : NodeId) (r : Rec) → is_calm r ≡ true → message_taken from r ≡ []
calm_taken_in from (note.Deliver sender message) calm = absurd (cc)
calm_taken_in from _ calm = refl

calm_lost_in : (node : NodeId) (r : Rec) → is_calm r ≡ true → is_lost_in node r ≡ false
calm_lost_in node (note.Lost lost) calm = absurd (cc)
calm_lost_in node _ calm = refl

calm_held_in : (plan : List PlanStep) (from to : NodeId) (now : Bool) (r : Rec) → is_calm r ≡ true →
    hold_after_rec plan from to now r ≡ now
calm_held_in plan from to now (note.Planned place refused) calm = absurd (cc)
calm_held_in plan from to now _ calm = refl

calm_fits_in : (plan : List PlanStep) (before : List Noted) (to : NodeId) (r : Rec) → is_calm r ≡ true →
    delivery_fits plan before to r ≡ true
calm_fits_in plan before to (note.Deliver sender message) calm = absurd (cc)
calm_fits_in plan before to _ calm = refl

-- the first of calm records is calm, and the rest is
pub first_rest : (a b : Bool) → (a && b) ≡ true → (a ≡ true) × (b ≡ true)
first_rest true b both = (refl, both)
first_rest false b both = absurd (cc)

pub one_sent : (from to : NodeId) (n : Noted) → message_sent to n.rec ≡ [] → flat_map (message_sent to) (rec_of from n) ≡ []
one_sent from to n none =
    elim (is_node from n.node) as (λ b. flat_map (message_sent to) (if b then n.rec ∷ [] else []) ≡ []) [
      | true ↦ rw none refl
      | false ↦ refl
    ]

pub one_taken : (from to : NodeId) (n : Noted) → message_taken from n.rec ≡ [] → flat_map (message_taken from) (rec_of to n)
    ≡ []
one_taken from to n none =
    elim (is_node to n.node) as (λ b. flat_map (message_taken from) (if b then n.rec ∷ [] else []) ≡ []) [
      | true ↦ rw none refl
      | false ↦ refl
    ]

calm_sent : (from to : NodeId) (who : Option NodeId) (rs : List Rec) → list_all is_calm rs ≡ true →
    sent_on from to (noted_by who rs) ≡ []
calm_sent from to who [] calm = refl
calm_sent from to who (r ∷ rs) calm =
    let c = first_rest (is_calm r) (list_all is_calm rs) calm in
    sent_parts from to (record { node = who; rec = r } ∷ []) (noted_by who rs)
    ∙ ap (λ ms. ms ++ sent_on from to (noted_by who rs))
    (ap (λ rs2. flat_map (message_sent to) rs2) (append_none (rec_of from (record { node = who; rec = r })))
    ∙ one_sent from to (record { node = who; rec = r }) (calm_sent_in to r c.0))
    ∙ calm_sent from to who rs c.1

calm_taken : (from to : NodeId) (who : Option NodeId) (rs : List Rec) → list_all is_calm rs ≡ true →
    taken_on from to (noted_by who rs) ≡ []
calm_taken from to who [] calm = refl
calm_taken from to who (r ∷ rs) calm =
    let c = first_rest (is_calm r) (list_all is_calm rs) calm in
    taken_parts from to (record { node = who; rec = r } ∷ []) (noted_by who rs)
    ∙ ap (λ ms. ms ++ taken_on from to (noted_by who rs))
    (ap (λ rs2. flat_map (message_taken from) rs2) (append_none (rec_of to (record { node = who; rec = r })))
    ∙ one_taken from to (record { node = who; rec = r }) (calm_taken_in from r c.0))
    ∙ calm_taken from to who rs c.1

calm_lost : (node : NodeId) (who : Option NodeId) (rs : List Rec) → list_all is_calm rs ≡ true →
    is_lost (noted_by who rs) node ≡ false
calm_lost node who [] calm = refl
calm_lost node who (r ∷ rs) calm =
    let c = first_rest (is_calm r) (list_all is_calm rs) calm in
    rw (calm_lost_in node r c.0) (calm_lost node who rs c.1)

calm_held : (plan : List PlanStep) (from to : NodeId) (now : Bool) (who : Option NodeId) (rs : List Rec) →
    list_all is_calm rs ≡ true → hold_over plan from to now (noted_by who rs) ≡ now
calm_held plan from to now who [] calm = refl
calm_held plan from to now who (r ∷ rs) calm =
    let c = first_rest (is_calm r) (list_all is_calm rs) calm in
    ap (λ b. hold_over plan from to b (noted_by who rs)) (calm_held_in plan from to now r c.0)
    ∙ calm_held plan from to now who rs c.1

pub or_none : (a : Bool) → (a || false) ≡ a
or_none true = refl
or_none false = refl

-- calm records behind others say nothing more
pub calm_same : (plan : List PlanStep) (ns : List Noted) (who : Option NodeId) (rs : List Rec) → list_all is_calm rs ≡ true →
    SayTheSame plan ns (ns ++ noted_by who rs)
calm_same plan ns who rs calm = record {
  same_sent = λ from to. sent_parts from to ns (noted_by who rs)
      ∙ ap (λ ms. sent_on from to ns ++ ms) (calm_sent from to who rs calm) ∙ append_none (sent_on from to ns);
  same_taken = λ from to. taken_parts from to ns (noted_by who rs)
      ∙ ap (λ ms. taken_on from to ns ++ ms) (calm_taken from to who rs calm) ∙ append_none (taken_on from to ns);
  same_lost = λ node. lost_parts ns (noted_by who rs) node ∙ ap (λ b. is_lost ns node || b) (calm_lost node who rs calm)
      ∙ or_none (is_lost ns node);
  same_held = λ from to. hold_parts plan from to false ns (noted_by who rs)
      ∙ calm_held plan from to (is_link_held plan from to ns) who rs calm;
}

-- the same, by way of what is between
pub same_twice : (plan : List PlanStep) (a b c : List Noted) → SayTheSame plan a b → SayTheSame plan b c → SayTheSame plan a c
same_twice plan a b c first second = record {
  same_sent = λ from to. second.same_sent from to ∙ first.same_sent from to;
  same_taken = λ from to. second.same_taken from to ∙ first.same_taken from to;
  same_lost = λ node. second.same_lost node ∙ first.same_lost node;
  same_held = λ from to. second.same_held from to ∙ first.same_held from to;
}

-- at a node that is not lost they pass
pub calm_fits : (plan : List PlanStep) (before : List Noted) (who : NodeId) (rs : List Rec) → list_all is_calm rs ≡ true →
    is_lost before who ≡ false → each_from (fits plan) before (noted_by (Some who) rs) ≡ true
calm_fits plan before who [] calm live = refl
calm_fits plan before who (r ∷ rs) calm live =
    let c = first_rest (is_calm r) (list_all is_calm rs) calm in
    let n : Noted = record { node = Some who; rec = r } in
    let later : is_lost (before ++ n ∷ []) who ≡ false = lost_parts before (n ∷ []) who
    ∙ (rw (live, calm_lost_in who r c.0) refl) in
    rw (live, calm_fits_in plan before who r c.0) (calm_fits plan (before ++ n ∷ []) who rs c.1 later)

pub all_calm : (rs : List Rec) → list_all is_own rs ≡ true → list_all is_calm rs ≡ true
all_calm [] own = refl
all_calm (r ∷ rs) own =
    let o = first_rest (is_own r) (list_all is_own rs) own in
    rw (own_is_calm r o.0) (all_calm rs o.1)

pub both_calm : (rs ss : List Rec) → list_all is_calm rs ≡ true → list_all is_calm ss ≡ true →
    list_all is_calm (rs ++ ss) ≡ true
both_calm [] ss first second = second
both_calm (r ∷ rs) ss first second =
    let c = first_rest (is_calm r) (list_all is_calm rs) first in
    rw c.0 (both_calm rs ss c.1 second)
