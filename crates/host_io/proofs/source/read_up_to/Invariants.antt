use Rattle.std.proofs.Common.{◌≡◌, ◌+◌, ◌≤◌, vec_len, is_some, ◌-◌}
use Rattle.std.specs.Io.KnownBytes.{prepend_known}
use Rattle.host_io.proofs.source.read_up_to.Given as goal

abbrev pub invariant-loop-bytes : goal.invariant-loop-bytes
invariant-loop-bytes g l = record {
  within : vec_len l.bytes ≤ l.limit;
  chunk : vec_len l.chunk ≡ 8192;
  taken : g.S.Source.left l.initial.source ≡ prepend_known l.bytes.items (g.S.Source.left l.source);
  counts : g.S.Source.faults l.initial.source ≤ g.S.Source.faults l.source;
  tells : is_some (g.S.Source.left l.source) ≡ is_some (g.S.Source.left l.initial.source);
}

abbrev pub decreases-loop-bytes : goal.decreases-loop-bytes
decreases-loop-bytes g l = l.limit + 1 - vec_len l.bytes
