use Rattle.std.proofs.Common.{refl}
use Rattle.partition_exchange.proofs.KeptCopies.{kept_by_rows}
use Rattle.partition_exchange.proofs.installing.keep_owned.Goals as goal

pub returns : goal.returns
returns c =
    rw (c.keep_copies.ensures, c.as_slice.ensures, c.in_ok-owned.ensures, c.me.ensures)
    (rw (kept_by_rows c.args.node.now.me c.args.node.now.stores c.args.rows.now) refl)
