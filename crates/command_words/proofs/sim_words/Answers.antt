use Rattle.std.proofs.Common.{◌≡◌, ◌∙◌, List, [], map, string_bytes, ap, sym, subst, inl, inr}
use Rattle.clap.specs.Words.{App, HasKind, app_of, fault_of, found_of, is_simple, is_simple_and_free, kind_of, matches_of, rows_of}
use Rattle.command_words.specs.declared.WordsFault.TheVariants.{Usage}
use Rattle.command_words.specs.Line.{line}
use Rattle.command_words.specs.Options.{Text}
use Rattle.command_words.specs.Parse.{fault, sim_app}
use Rattle.command_words.proofs.Read.{is_free, is_ready, taken_line, refused_line, asked_ok, asked_usage, no_memory}
use Rattle.command_words.proofs.sim_words.Goals as goal

asked_line : (c : goal.Joined-matches) → c.asked_of.result ≡ line (map string_bytes c.args.words.now)
asked_line c =
    let words : List Text = map string_bytes c.args.words.now in
    let app_is : app_of c.in_ok-command.command ≡ sim_app = c.in_ok-command.ensures in
    let passes : fault_of sim_app words ≡ [] = subst (λ (a : App). fault_of a words ≡ []) app_is
    (c.in-Ok.ensures.kinds (ap is_simple_and_free app_is ∙ is_free)) in
    let rows_are : rows_of (found_of c.in-Ok.matches) ≡ matches_of sim_app words =
    (c.in-Ok.ensures.matches (ap is_simple app_is ∙ is_ready)).0 ∙ ap (λ (a : App). matches_of a words) app_is in
    c.asked_of.ensures ∙ taken_line words (found_of c.in-Ok.matches) passes rows_are

pub returns-in-Ok-clause-ok : goal.returns-in-Ok-clause-ok
returns-in-Ok-clause-ok c = asked_ok c.asked_of.result (line (map string_bytes c.args.words.now)) c.ok_or.result
    (asked_line c) c.ok_or.ensures.value

pub returns-in-Ok-clause-usage : goal.returns-in-Ok-clause-usage
returns-in-Ok-clause-usage c = asked_usage c.asked_of.result (line (map string_bytes c.args.words.now)) c.ok_or.result
    (asked_line c) c.ok_or.ensures.value

pub returns-in-Err-clause-usage : goal.returns-in-Err-clause-usage
returns-in-Err-clause-usage c usage =
    let words : List Text = map string_bytes c.args.words.now in
    let app_is : app_of c.in_ok-command.command ≡ sim_app = c.in_ok-command.ensures in
    let fault_is : c.fault.result ≡ Usage = cc in
    let kind_is : fault (kind_of c.in-Err.error) ≡ Usage = ap fault (sym c.kind.ensures) ∙ (sym c.fault.ensures ∙ fault_is) in
    let has : HasKind (fault_of sim_app words) c.in-Err.error =
    subst (λ (a : App). HasKind (fault_of a words) c.in-Err.error) app_is
    (c.in-Err.ensures.kinds (ap is_simple_and_free app_is ∙ is_free)) in
    elim has [
      | inl memory ↦ absurd (no_memory (kind_of c.in-Err.error) memory kind_is)
      | inr among ↦ refused_line words (kind_of c.in-Err.error) among
    ]
