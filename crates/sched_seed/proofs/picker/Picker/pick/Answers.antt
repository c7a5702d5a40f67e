use Rattle.std.proofs.Common.{◌≡◌, rules}
use Rattle.sched_seed.specs.Picks.{after_pick, next_pick}
use Rattle.sched_seed.proofs.PickLemmas.{picked_at}
use Rattle.sched_seed.proofs.picker.Picker.pick.Goals as goal
use Rattle.sched_seed.proofs.picker.Picker.pick.Goals.{in-Some, in-None}

pub returns-clause-counted : goal.returns-clause-counted
returns-clause-counted c =
    let first : c.match-self.result ≡ next_pick c.args.self.now c.args.n =
    elim c.match-self.branch [ in-Some w ↦ search rules | in-None w ↦ search rules ] in
    let rest : c.match-self.self-inside.generator ≡ after_pick c.args.self.now =
    elim c.match-self.branch [ in-Some w ↦ search rules | in-None w ↦ search rules ] in
    λ seed k at. picked_at c.args.self.now c.match-self.self-inside.generator c.match-self.result seed k c.args.n first rest at
