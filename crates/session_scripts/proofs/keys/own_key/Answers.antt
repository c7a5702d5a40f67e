use Rattle.std.proofs.Common.{◌≡◌, ◌∷◌, ◌++◌, take}
use Rattle.session_scripts.proofs.CutTexts.{dotted}
use Rattle.session_scripts.proofs.keys.own_key.Goals as goal

pub returns : goal.returns
returns c =
    let text : c.joined-text.result ≡ take 32 (c.args.object.now.text ++ 46 ∷ c.args.name.now) =
    rw (c.joined-text.ensures, c.as_slice.ensures.value, c.joined-dotted.ensures, c.bytes.ensures.value)
    (dotted 32 c.args.object.now.text 46 c.args.name.now) in
    rw text
