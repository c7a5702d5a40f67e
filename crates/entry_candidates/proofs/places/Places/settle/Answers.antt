use Rattle.std.proofs.Common.{[], ap, unwrap_or, ◌∙◌, ◌≡◌}
use Rattle.entry_candidates.proofs.Named.{table_back, tx_put_put, tx_put_there}
use Rattle.entry_candidates.specs.Placing.{table_of}
use Rattle.entry_candidates.proofs.places.Places.settle.Goals as goal

pub replace-vacant-requires : goal.replace-vacant-requires
replace-vacant-requires c =
    rw (c.self.view_is ∙ c.in-Some.ensures.vacant) (tx_put_there c.args.self.now c.args.tx [])

pub returns-in-Some-place : goal.returns-in-Some-place
returns-in-Some-place c =
    let table : table_of c.args.self.now c.args.tx ≡ c.in-Some.table = ap (λ t. unwrap_or t []) c.in-Some.ensures.was in
    rw (
      c.in-Some-place.is,
      c.replace-vacant.ensures.new,
      c.replace-old.ensures.new,
      c.self.view_is
          ∙ c.in-Some.ensures.vacant,
      table,
    ) (tx_put_put c.args.self.now c.args.tx [] _)

pub returns-in-None-place : goal.returns-in-None-place
returns-in-None-place c =
    let table : table_of c.args.self.now c.args.tx ≡ c.in-Some.table = ap (λ t. unwrap_or t []) c.in-Some.ensures.was in
    rw (c.in-None-place.is, c.put_back.ensures, c.remove-old.ensures.rest, c.in-Some.ensures.vacant, table)
    (table_back c.args.self.now c.args.tx [] _)
