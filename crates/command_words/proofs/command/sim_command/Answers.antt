use Rattle.std.proofs.Common.{◌≡◌, ◌∙◌, ap, ap₂, true, codes}
use Rattle.std.proofs.lemmas.Result.{IfOk-weaker}
use Rattle.clap.specs.Words.{app_of, with_rule}
use Rattle.clap.specs.Simple.{app_of_fields, new_app, on_top}
use Rattle.command_words.specs.Parse.{bare}
use Rattle.command_words.proofs.command.sim_command.Goals as goal

pub returns : goal.returns
returns c =
    let start : app_of c.new.result ≡ new_app (codes "txsim") = c.new.ensures.app in
    let no_name : app_of c.no_binary_name.result ≡ on_top (λ s. record s { no_binary_name = true }) (app_of c.new.result) =
    ap app_of_fields c.no_binary_name.ensures in
    let no_help : app_of c.disable_help_flag.result ≡ on_top (λ s. record s { disable_help_flag = true })
    (app_of c.no_binary_name.result) = ap app_of_fields c.disable_help_flag.ensures in
    let no_version : app_of c.disable_version_flag.result ≡ on_top (λ s. record s { disable_version_flag = true })
    (app_of c.disable_help_flag.result) = ap app_of_fields c.disable_version_flag.ensures in
    let bare_is : app_of c.disable_version_flag.result ≡ bare = no_version
    ∙ ap (on_top (λ s. record s { disable_version_flag = true })) (no_help
    ∙ ap (on_top (λ s. record s { disable_help_flag = true })) (no_name
    ∙ ap (on_top (λ s. record s { no_binary_name = true })) start)) in
    let one = c.in_ok-arg.ensures.shape c.valued.ensures.local ∙ ap₂ with_rule bare_is c.valued.ensures.rule in
    let two = c.in_ok-arg-2.ensures.shape c.valued-2.ensures.local ∙ ap₂ with_rule one c.valued-2.ensures.rule in
    let three = c.in_ok-arg-3.ensures.shape c.valued-3.ensures.local ∙ ap₂ with_rule two c.valued-3.ensures.rule in
    let four = c.in_ok-arg-4.ensures.shape c.valued-4.ensures.local ∙ ap₂ with_rule three c.valued-4.ensures.rule in
    let five = c.in_ok-arg-5.ensures.shape c.flagged.ensures.local ∙ ap₂ with_rule four c.flagged.ensures.rule in
    IfOk-weaker c.arg-6.result _ _ (λ r added. added.shape c.flagged-2.ensures.local
    ∙ ap₂ with_rule five c.flagged-2.ensures.rule) c.arg-6.ensures
