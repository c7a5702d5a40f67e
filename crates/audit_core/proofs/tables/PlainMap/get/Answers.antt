use Rattle.std.proofs.Common.{nat_eq, sym, ◌∙◌}
use Rattle.std.specs.Cmp.Lexicographic.{pointwise, nat_list_cmp_total, texts_ties}
use Rattle.std.proofs.lemmas.Map.Lookups.{exact_bytes}
use Rattle.hash_table.proofs.Tables.{at_by_key}
use Rattle.audit_core.specs.Histories.{bytes_cmp}
use Rattle.audit_core.proofs.tables.PlainMap.get.Goals as goal

pub returns : goal.returns
returns c =
    rw (← c.self.view_is) (c.get.ensures.value
    ∙ sym (at_by_key bytes_cmp (pointwise nat_eq) nat_list_cmp_total texts_ties exact_bytes c.self.inside.map.entries
    c.args.key.now))
