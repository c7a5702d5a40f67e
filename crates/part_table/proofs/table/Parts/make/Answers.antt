use Rattle.std.proofs.Common.{arith, ap, sym, ◌∙◌, ◌≡◌, map, length, refl}
use Rattle.std.proofs.lemmas.Grind.{common_steps}
use Rattle.part_table.specs.History as history
use Rattle.part_table.specs.Rule.{numbers_from}
use Rattle.part_table.specs.Surface.{plan_of_table}
use Rattle.part_table.proofs.Dealing.{made, length_map}
use Rattle.part_table.proofs.Opening.{count_length}
use Rattle.part_table.proofs.table.Parts.make.Goals as goal

pub new-requires : goal.new-requires
new-requires g c = let m = c.args.machine in
    let many : length c.args.opening.items ≡ g.M.Machine.count m = ap (λ l. length l) c.requires.opening
    ∙ (length_map (g.M.Machine.opening m) _ ∙ count_length 0 _) in
    let is : c.len-count.result ≡ length c.args.opening.items = grind (arith, common_steps) in
    made (history.rules c.len-count.result (g.M.Machine.opening m) (g.M.Machine.touches m) (g.M.Machine.relates m))
    c.args.limit c.args.passes m _ c.args.opening.items _ _ _
    (c.deref.ensures.value ∙ c.in_ok-words.ensures.items_if_clones_equal (λ y same. same)) c.in_ok-slots.ensures
    (c.requires.opening ∙ ap (λ n. map (g.M.Machine.opening m) (numbers_from 0 n)) (sym many ∙ sym is))
    record {
      no_states = c.in_ok-states.ensures.items;
      states = c.in_ok-states.ensures.capacity;
      no_events =
          c.in_ok-events.ensures.items;
      events = c.in_ok-events.ensures.capacity;
    }

pub returns-clause-table : goal.returns-clause-table
returns-clause-table g c = let m = c.args.machine in
    let many : length c.args.opening.items ≡ g.M.Machine.count m = ap (λ l. length l) c.requires.opening
    ∙ (length_map (g.M.Machine.opening m) _ ∙ count_length 0 _) in
    let is : c.len-count.result ≡ length c.args.opening.items = grind (arith, common_steps) in
    let key = c.in-Ok.ensures.ok.5 in
    (is ∙ many, refl, key ∙ ap (λ n. plan_of_table m n c.args.limit c.args.passes) (is ∙ many))
