use Rattle.std.proofs.Common.{◌≡◌, drop}
use Rattle.ignite_types.specs.Placement.{hash_from, key_hash}
use Rattle.ignite_types.proofs.text.Key.hash.Given as goal

abbrev pub invariant-loop-byte : goal.invariant-loop-byte
invariant-loop-byte l = hash_from l.hash (drop l.byte-index l.byte-items) ≡ key_hash l.self.text
