use Rattle.std.proofs.Common.{◌≡◌}
use Rattle.ignite_types.specs.Names.{node_cmp}
use Rattle.ordered_set.specs.Members.{with_member}
use Rattle.near_cache.proofs.ReaderLaws.{on_err, on_ok, reader_added, readers_there, readers_unchanged}
use Rattle.near_cache.proofs.readers.Readers.add.Goals as goal

pub replace-none-requires : goal.replace-none-requires
replace-none-requires c =
    rw c.replace-readers.ensures.new (readers_there c.self.inside.nodes c.args.key c.new.result)

pub returns-clause-ok : goal.returns-clause-ok
returns-clause-ok c =
    on_ok c.insert-added.result
    (λ (added : c.insert-added.new.self ≡ with_member node_cmp c.replace-readers.result c.args.node).
    rw (c.replace-none.ensures.new, c.replace-readers.ensures.new, ← c.self.view_is)
    (reader_added c.self.inside.nodes c.args.key c.replace-readers.result c.new.result c.insert-added.new.self c.args.node
    c.replace-readers.ensures.old added))
    c.insert-added.ensures.ok

pub returns-clause-err : goal.returns-clause-err
returns-clause-err c =
    on_err c.insert-added.result
    (λ (same : c.insert-added.new.self ≡ c.replace-readers.result).
    rw (c.replace-none.ensures.new, c.replace-readers.ensures.new, ← c.self.view_is, same)
    (readers_unchanged c.self.inside.nodes c.args.key c.replace-readers.result c.new.result c.replace-readers.ensures.old))
    c.insert-added.ensures.err
