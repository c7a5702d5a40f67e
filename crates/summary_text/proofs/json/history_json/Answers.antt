use Rattle.std.proofs.Common.{ap, [], ◌∷◌, ◌++◌, ◌∙◌, Global, List, Vec, ℕ}
use Rattle.serde_json.specs.Written.{compact_text}
use Rattle.summary_text.proofs.Pairs.{history_plain}
use Rattle.summary_text.proofs.json.history_json.Goals as goal

pub compact-requires : goal.compact-requires
compact-requires c = rw c.in_ok-whole.ensures (history_plain c.args.scenario.now c.args.commits.now)

pub returns : goal.returns
returns c =
    c.in_ok-push.ensures.items
    ∙ ap (λ (text : List ℕ). text ++ (10 ∷ [])) (ap (λ (v : Vec ℕ Global). v.items) c.into_bytes-bytes.ensures.value
    ∙ c.in_ok-compact.ensures ∙ ap compact_text c.in_ok-whole.ensures)
