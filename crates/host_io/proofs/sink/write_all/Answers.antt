use Rattle.std.proofs.Common.{rules}
use Rattle.host_io.proofs.Joined.{append_taken}
use Rattle.host_io.proofs.sink.write_all.Goals as goal

pub loop-done-preserved : goal.loop-done-preserved
loop-done-preserved g c = record {
  within = search rules;
  appended = append_taken _ _ _ c.args.bytes.now c.loop-done.done c.in_ok-done.field-0 c.loop-done.invariant.appended
      c.in_ok-done.ensures.appended;
  counts = search rules;
  tells = search rules;
}
