use Rattle.frame_laws.proofs.Acts.{calls, expires, sees, takes}
use Rattle.frame_laws.proofs.acts_extend.Goals as goal

pub returns-clause-message : goal.returns-clause-message
returns-clause-message c = takes

pub returns-clause-event : goal.returns-clause-event
returns-clause-event c = sees

pub returns-clause-expiry : goal.returns-clause-expiry
returns-clause-expiry c = expires

pub returns-clause-call : goal.returns-clause-call
returns-clause-call c = calls
