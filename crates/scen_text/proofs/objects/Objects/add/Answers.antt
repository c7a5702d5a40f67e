use Rattle.std.proofs.Common.{◌≡◌, false, true, is_some, ◌∙◌}
use Rattle.std.specs.Map.{lookup}
use Rattle.ignite_types.specs.Names.{same_key}
use Rattle.scen_text.proofs.Seen.{found_before, added_last}
use Rattle.scen_text.proofs.objects.Objects.add.Goals as goal

pub returns-in_ok-insert : goal.returns-in_ok-insert
returns-in_ok-insert c =
    let new : is_some (lookup (same_key c.args.key.now) c.self.inside.kinds.entries) ≡ false = cc in
    rw (← c.self.view_is) (c.in_ok-insert.ensures.entries ∙ added_last c.self.inside.kinds.entries c.args.key.now c.args.kind
    new)

pub returns-else-not-contains_key : goal.returns-else-not-contains_key
returns-else-not-contains_key c =
    let found : is_some (lookup (same_key c.args.key.now) c.self.inside.kinds.entries) ≡ true = cc in
    rw (← c.self.view_is) (found_before c.self.inside.kinds.entries c.args.key.now c.args.kind found)
