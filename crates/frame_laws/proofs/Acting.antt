-- What each act leaves alone, from what its rows leave alone.
use Rattle.std.proofs.Common.{◌≡◌, ◌++◌, List, [], ◌∷◌, true, refl, ap, ◌∙◌}
use Rattle.std.specs.List.{list_all}
use Rattle.frame_laws.specs.Acting.{Leaves, Notes, Plain}
use Rattle.frame_laws.specs.Extending.{OnlyAppends, is_own}
use Rattle.frame_laws.proofs.Extending.{append_twice}
use Rattle.act_rows.specs.Acts.{act_result, with_act_begun}
use Rattle.act_rows.specs.Steps.{with_note}
use Rattle.ignite_types.specs.declared.journal.Rec.{Rec}
use Rattle.node_state.specs.Node.{NodeState}

-- the act of a row that extends the node
leaves : (s after : NodeState) → OnlyAppends (with_act_begun s) after → Leaves s (act_result after).state
leaves s after e = record {
  same_me = e.same_me;
  counted = e.same_acts;
  same_now = e.same_now;
  taken = refl;
  sent = e.more_sent;
  outbox_is = e.outbox_is;
}

own_alone : (rs : List Rec) → list_all is_own rs ≡ true → Notes rs [] []
own_alone rs own = record {
  first = [];
  last = rs;
  first_own = refl;
  last_own = own;
  recs_are = refl;
}

pub plain : (s after : NodeState) → OnlyAppends (with_act_begun s) after → Plain s (act_result after)
plain s after e = (leaves s after e, rw e.noted_is (own_alone e.more_noted e.own))

-- with a record before all that it brings
pub after_first : (s after : NodeState) (r : Rec) → OnlyAppends (with_act_begun s) after → Leaves s (act_result after).state
    × Notes (r ∷ (act_result after).recs) (r ∷ []) []
after_first s after r e = (
  leaves s after e,
  record {
    first = [];
    last = e.more_noted;
    first_own = refl;
    last_own = e.own;
    recs_are = ap (λ rs. r ∷ rs) e.noted_is;
  },
)

-- a topology event is noted between what learning it brings and the rest
pub between : (s learned after : NodeState) (r : Rec) → OnlyAppends (with_act_begun s) learned →
    OnlyAppends (with_note learned r) after → Leaves s (act_result after).state × Notes (act_result after).recs [] (r ∷ [])
between s learned after r first second = (
  record {
    same_me = second.same_me ∙ first.same_me;
    counted = second.same_acts ∙ first.same_acts;
    same_now = second.same_now ∙ first.same_now;
    taken = refl;
    sent = first.more_sent ++ second.more_sent;
    outbox_is = second.outbox_is ∙ ap (λ os. os ++ second.more_sent) first.outbox_is
        ∙ append_twice s.outbox first.more_sent second.more_sent;
  },
  record {
    first = first.more_noted;
    last = second.more_noted;
    first_own = first.own;
    last_own = second.own;
    recs_are = second.noted_is ∙ ap (λ rs. (rs ++ r ∷ []) ++ second.more_noted) first.noted_is
        ∙ append_twice first.more_noted (r ∷ []) second.more_noted;
  },
)
