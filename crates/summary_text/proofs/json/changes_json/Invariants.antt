use Rattle.std.proofs.Common.{drop, ◌≡◌}
use Rattle.serde_json.specs.Data.{no_members}
use Rattle.serde_json.specs.View.{members_view}
use Rattle.summary_text.specs.Json as json
use Rattle.summary_text.proofs.json.changes_json.Given as goal

abbrev pub invariant-loop-change : goal.invariant-loop-change
invariant-loop-change l = json.by_text l.scenario (members_view l.members.entries) (drop l.change-index l.changes)
    ≡ json.by_text l.scenario no_members l.changes
