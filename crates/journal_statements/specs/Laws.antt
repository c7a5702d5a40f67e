-- What every run shows besides the headline.
use Rattle.std.specs.Prelude.{Bool, ◌&&◌}
use Rattle.ignite_types.specs.declared.journal.Journal.{Journal}
use Rattle.journal_statements.specs.Finds.{finds_fit}
use Rattle.journal_statements.specs.MapLaws.{map_laws}
use Rattle.journal_statements.specs.SearchLaws.{search_laws}
use Rattle.journal_statements.specs.ShareLaws.{share_laws}
use Rattle.journal_statements.specs.StallLaws.{run_end_laws}

-- on finds, on maps and versions, on shares, on searches, and on the end of a run
abbrev pub laws : Journal → Bool
laws j = finds_fit j && map_laws j && share_laws j && search_laws j && run_end_laws j
