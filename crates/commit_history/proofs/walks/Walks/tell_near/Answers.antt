use Rattle.std.proofs.Common.{◌≡◌, List, refl, ◌∙◌}
use Rattle.part_model.specs.Copies.{Found}
use Rattle.ignite_types.specs.Names.{key_cmp}
use Rattle.ignite_types.specs.declared.text.Key.{Key}
use Rattle.ordered_table.specs.Entries.{put}
use Rattle.commit_history.specs.Steps.{near_told_of}
use Rattle.commit_history.proofs.Results.{on_ok}
use Rattle.commit_history.proofs.walks.Walks.tell_near.Goals as goal

pub returns : goal.returns
returns c =
    let node = c.in-Some.node in
    let known : List (Key × Found) = put key_cmp (near_told_of c.args.self.now node) c.args.key.now c.args.found.now in
    let set : c.set.new.self ≡ known = c.in_ok-set.ensures.ok ∙ rw c.take_near-known.ensures.known refl in
    let told = c.take_near-known.ensures.rest.again known in
    on_ok c.set-2.result c.set-2.ensures.ok (λ near. rw (
      near,
      set,
      told,
      c.take_near-known.ensures.rest.others,
      c.in-Some.is,
    ) refl)
