use Rattle.std.proofs.Common.{drop, string_bytes, ◌++◌, ◌≡◌}
use Rattle.summary_text.specs.Json as json
use Rattle.summary_text.proofs.json.text_of.Given as goal

abbrev pub invariant-loop-byte : goal.invariant-loop-byte
invariant-loop-byte l = string_bytes l.text ++ json.characters (drop l.byte-index l.bytes) ≡ json.characters l.bytes
