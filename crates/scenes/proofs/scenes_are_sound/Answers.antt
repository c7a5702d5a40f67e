use Rattle.std.proofs.Common.{sym, ◌∙◌}
use Rattle.scenes.proofs.EachRun.{sound_holds}
use Rattle.scenes.proofs.scenes_are_sound.Goals as goal

pub returns-clause-law : goal.returns-clause-law
returns-clause-law c is j run = sound_holds c.args.events (sym c.is_short.ensures ∙ is) j run
