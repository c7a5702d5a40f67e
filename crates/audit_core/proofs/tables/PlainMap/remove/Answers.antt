use Rattle.std.proofs.Common.{nat_eq}
use Rattle.std.specs.Cmp.Lexicographic.{pointwise, nat_list_cmp_total, texts_ties}
use Rattle.std.proofs.lemmas.Map.Lookups.{exact_bytes}
use Rattle.hash_table.proofs.Tables.{by_key_without}
use Rattle.audit_core.specs.Histories.{bytes_cmp}
use Rattle.audit_core.proofs.tables.PlainMap.remove.Goals as goal

pub returns : goal.returns
returns c =
    rw (← c.self.view_is) (by_key_without bytes_cmp (pointwise nat_eq) nat_list_cmp_total texts_ties exact_bytes _ _
    c.args.key.now c.swap_remove.ensures.updates.0)
