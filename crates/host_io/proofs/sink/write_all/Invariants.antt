use Rattle.std.proofs.Common.{length, ◌-◌, ◌≡◌, ◌≤◌, take, is_some}
use Rattle.std.specs.Io.KnownBytes.{append_known}
use Rattle.host_io.proofs.sink.write_all.Given as goal

abbrev pub invariant-loop-done : goal.invariant-loop-done
invariant-loop-done g l = record {
  within : l.done ≤ length l.bytes;
  appended : g.K.Sink.held l.sink ≡ append_known (g.K.Sink.held l.initial.sink) (take l.done l.bytes);
  counts : g.K.Sink.faults l.initial.sink ≤ g.K.Sink.faults l.sink;
  tells : is_some (g.K.Sink.held l.sink) ≡ is_some (g.K.Sink.held l.initial.sink);
}

abbrev pub decreases-loop-done : goal.decreases-loop-done
decreases-loop-done g l = length l.bytes - l.done
