use Rattle.session_scripts.proofs.CutTexts.{written}
use Rattle.session_scripts.proofs.keys.write_both.Goals as goal

pub returns-clause-written : goal.returns-clause-written
returns-clause-written c =
    written c.args.room.now c.args.front.now c.args.rest.now c.copy_from_slice.new.self c.copy_from_slice-2.new.self
    c.min-more.result
    c.requires c.min-more.ensures c.copy_from_slice.ensures.after c.copy_from_slice-2.ensures.after
