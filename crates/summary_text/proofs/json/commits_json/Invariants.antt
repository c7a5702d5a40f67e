use Rattle.std.proofs.Common.{drop, map, ◌++◌, ◌≡◌}
use Rattle.serde_json.specs.View.{view}
use Rattle.summary_text.proofs.Pairs.{commit_list}
use Rattle.summary_text.proofs.json.commits_json.Given as goal

abbrev pub invariant-loop-entry : goal.invariant-loop-entry
invariant-loop-entry l = map view l.list.items ++ commit_list l.scenario (drop l.entry-index l.commits)
    ≡ commit_list l.scenario l.commits
