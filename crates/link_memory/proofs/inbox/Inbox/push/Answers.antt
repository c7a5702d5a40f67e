use Rattle.link_memory.proofs.LinkLaws.{put_back}
use Rattle.link_memory.proofs.inbox.Inbox.push.Goals as goal

pub returns-in-Err-clause-err : goal.returns-in-Err-clause-err
returns-in-Err-clause-err c =
    let done = put_back _ _ c.args.from c.in-Some.link c.in-Some.ensures in
    let seen = rw (← c.self-2.view_is) at done in
    rw (c.replace-vacant-in-Err.ensures.new, c.in-Err.ensures.err) seen
