use Rattle.std.proofs.Common.{rules, arith, sym, ap, ◌∙◌, ◌≡◌, ◌+◌, ⊎_elim}
use Rattle.std.proofs.lemmas.Grind.{common_steps}
use Rattle.std.specs.Slots.{slots_counts}
use mathlib.Core.Option.{some, some-injective}
use lib.ListN.{get_elem?}
use Rattle.part_table.specs.declared.rule.Slot.TheVariants.{Place}
use Rattle.part_table.proofs.Emptying.{taken_more, drop_elem, left_below, left_above, left_last}
use Rattle.part_table.proofs.rows.take_events.Goals as goal

pub unreachable-requires : goal.unreachable-requires
unreachable-requires g c =
    let t = c.requires.places c.loop-j.j c.loop-j-test.true in
    let is : Place t.0 ≡ c.take.result =
    some-injective _ _ (sym t.1 ∙ (ap (λ l. get_elem? l (c.args.from + c.loop-j.j)) (sym c.loop-j.invariant.same.0)
    ∙ c.take.ensures.value)) in
    ⊎_elim (λ p. absurd (cc (is ∙ p.1)))
    (λ q. ⊎_elim (λ a. absurd (cc (is ∙ a.2))) (λ s. ⊎_elim (λ l. absurd (cc (is ∙ l.2))) (λ e. absurd (cc (is ∙ e))) s)
    q) c.in-Part.is

pub loop-j-preserved : goal.loop-j-preserved
loop-j-preserved g c = let i = c.loop-j.invariant in let fs = c.take.ensures.others in let counts =
    slots_counts c.loop-j.closed.slots in let at = c.args.from + c.loop-j.j in record {
      same = search rules;
      left = (
        left_below _ _ (c.args.from + c.loop-j.j) _ _ counts.1 (let r = c.requires.room.2 in let s = i.same.1 in let l =
            c.loop-j-test.true in omega (arith, r, s, l)) (omega arith) fs.1 i.left.0,
        left_above _ _ (c.args.from + c.loop-j.j) _ _ _ (omega arith) fs.2 fs.1 i.left.1,
        left_last _ _ (c.args.from + c.loop-j.j) _ _ counts.1 (let r = c.requires.room.2 in let s = i.same.1 in let l =
            c.loop-j-test.true in omega (arith, r, s, l)) fs.2 fs.1 i.left.2,
      );
      items = taken_more Place _ _ c.in-Place.event _ c.loop-j.j i.items (drop_elem c.args.from _ c.loop-j.j
          ∙ (ap (λ l. get_elem? l at) (sym i.same.0) ∙ (c.take.ensures.value ∙ ap some c.in-Place.is)))
          c.push_reserved.ensures.items;
      room = grind (arith, common_steps);
    }
