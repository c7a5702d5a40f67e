use Rattle.std.proofs.Common.{◌≡◌, Some, None, refl}
use Rattle.ignite_types.specs.Names.{key_cmp, node_cmp}
use Rattle.ordered_table.specs.Entries.{at}
use Rattle.commit_history.proofs.walks.Walks.near_at.Goals as goal

pub returns-in-Some-get : goal.returns-in-Some-get
returns-in-Some-get c =
    let known : Some c.in-Some.known.now ≡ at node_cmp c.args.self.now.near c.args.node.now = c.in-Some.ensures.value in
    let found : Some c.in-Some-get.found.now ≡ at key_cmp c.in-Some.known.now c.args.key.now = c.in-Some-get.ensures.value in
    rw (← known, ← found) refl

pub returns-in-None-get : goal.returns-in-None-get
returns-in-None-get c =
    let known : Some c.in-Some.known.now ≡ at node_cmp c.args.self.now.near c.args.node.now = c.in-Some.ensures.value in
    let found : None ≡ at key_cmp c.in-Some.known.now c.args.key.now = c.in-None-get.ensures.value in
    rw (← known, ← found) refl
