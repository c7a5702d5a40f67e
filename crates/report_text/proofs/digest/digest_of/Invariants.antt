use Rattle.std.proofs.Common.{◌≡◌, drop}
use Rattle.report_text.specs.Digests.{no_digest, with_groups}
use Rattle.report_text.proofs.digest.digest_of.Given as goal

abbrev pub invariant-loop-group : goal.invariant-loop-group
invariant-loop-group l = with_groups l.found (drop l.group-index l.groups) ≡ with_groups no_digest l.groups
