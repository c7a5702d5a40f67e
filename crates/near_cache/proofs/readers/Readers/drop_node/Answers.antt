use Rattle.std.proofs.Common.{sym}
use Rattle.near_cache.proofs.ReaderLaws.{reader_lost}
use Rattle.near_cache.proofs.readers.Readers.drop_node.Goals as goal

pub returns : goal.returns
returns c =
    rw (c.change_each.ensures, ← c.self.view_is)
    (sym (reader_lost c.self.inside.nodes c.args.node c.len-count.ensures.ascending))
