use Rattle.std.proofs.Common.{◌≡◌, ◌+◌, ◌≤◌, length}
use Rattle.std.specs.Str.Lines.{lines}
use Rattle.scen_text.specs.Reading.{read_lines, read_text}
use Rattle.scen_text.proofs.read.read_text.Given as goal

abbrev pub invariant-loop-line : goal.invariant-loop-line
invariant-loop-line l = record {
  rest : read_lines l.number l.draft (lines l.left) ≡ read_text (lines l.text);
  few : length l.draft.caches ≤ 8;
  small : l.number + length l.left ≤ 1048577;
}

abbrev pub decreases-loop-line : goal.decreases-loop-line
decreases-loop-line l = length l.left
