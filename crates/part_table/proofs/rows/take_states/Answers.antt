use Rattle.std.proofs.Common.{rules, arith, sym, ap, ◌∙◌, ◌≡◌, ⊎_elim}
use Rattle.std.proofs.lemmas.Grind.{common_steps}
use Rattle.std.specs.Slots.{slots_counts}
use mathlib.Core.Option.{some, some-injective}
use lib.ListN.{get_elem?}
use Rattle.part_table.specs.declared.rule.Slot.TheVariants.{Part}
use Rattle.part_table.proofs.Emptying.{taken_more, left_below, left_above, left_last}
use Rattle.part_table.proofs.rows.take_states.Goals as goal

pub unreachable-requires : goal.unreachable-requires
unreachable-requires g c =
    let t = c.requires.parts c.loop-i.i c.loop-i-test.true in
    let is : Part t.0 ≡ c.take.result =
    some-injective _ _ (sym t.1 ∙ (ap (λ l. get_elem? l c.loop-i.i) (sym c.loop-i.invariant.same.0)
    ∙ c.take.ensures.value)) in
    ⊎_elim (λ p. absurd (cc (is ∙ p.1)))
    (λ q. ⊎_elim (λ a. absurd (cc (is ∙ a.2))) (λ s. ⊎_elim (λ l. absurd (cc (is ∙ l.2))) (λ e. absurd (cc (is ∙ e))) s)
    q) c.in-Place.is

pub loop-i-preserved : goal.loop-i-preserved
loop-i-preserved g c = let i = c.loop-i.invariant in let fs = c.take.ensures.others in let counts =
    slots_counts c.loop-i.closed.slots in record {
      same = search rules;
      left = (
        left_below _ _ (c.loop-i.i) _ _ counts.1 (let r = c.requires.room.2 in let s = i.same.1 in let l = c.loop-i-test.true in
            omega (arith, r, s, l)) (omega arith) fs.1 i.left.0,
        left_above _ _ (c.loop-i.i) _ _ _ (omega arith) fs.2 fs.1 i.left.1,
        left_last _ _ c.loop-i.i _ _ counts.1 (let r = c.requires.room.2 in let s = i.same.1 in let l = c.loop-i-test.true in
            omega (arith, r, s, l)) fs.2 fs.1 i.left.2,
      );
      items = taken_more Part _ _ c.in-Part.value _ c.loop-i.i i.items (ap (λ l. get_elem? l c.loop-i.i) (sym i.same.0)
          ∙ (c.take.ensures.value ∙ ap some c.in-Part.is)) c.push_reserved.ensures.items;
      room = grind (arith, common_steps);
    }
