-- What rows use of the node's tables: a value that is put aside for a moment leaves no trace.
use Rattle.std.proofs.Common.{◌≡◌, List, ℕ, IsSome, Option}
use Rattle.std.specs.Cmp.{IsTotalOrder}
use Rattle.std.specs.Cmp.{then_total, on_total}
use Rattle.std.specs.Ordering.{nat_cmp}
use Rattle.std.proofs.lemmas.Cmp.{nat_cmp_total, nat_list_cmp_total}
use Rattle.ignite_types.proofs.NameLaws.{key_total, tx_total}
use Rattle.ignite_types.specs.declared.names.TxId.{TxId}
use Rattle.ignite_types.specs.declared.text.Key.{Key}
use Rattle.ignite_types.specs.Names.{tx_cmp, key_cmp}
use Rattle.ordered_table.specs.Entries.{at, put, without}
use Rattle.ordered_table.proofs.Laws as laws

pub tx_put_put : {V : Type 0} (es : List (TxId × V)) (k : TxId) (v w : V) →
    put tx_cmp (put tx_cmp es k v) k w ≡ put tx_cmp es k w
tx_put_put es k v w = laws.put_put tx_cmp tx_total es k v w

pub tx_put_there : {V : Type 0} (es : List (TxId × V)) (k : TxId) (v : V) → IsSome (at tx_cmp (put tx_cmp es k v) k)
tx_put_there es k v = laws.put_there tx_cmp tx_total es k v

pub key_put_put : {V : Type 0} (es : List (Key × V)) (k : Key) (v w : V) →
    put key_cmp (put key_cmp es k v) k w ≡ put key_cmp es k w
key_put_put es k v w = laws.put_put key_cmp key_total es k v w

pub key_put_there : {V : Type 0} (es : List (Key × V)) (k : Key) (v : V) → IsSome (at key_cmp (put key_cmp es k v) k)
key_put_there es k v = laws.put_there key_cmp key_total es k v

pub nat_put_put : {V : Type 0} (es : List (ℕ × V)) (k : ℕ) (v w : V) → put nat_cmp (put nat_cmp es k v) k w ≡ put nat_cmp es k w
nat_put_put es k v w = laws.put_put nat_cmp nat_cmp_total es k v w

pub nat_put_there : {V : Type 0} (es : List (ℕ × V)) (k : ℕ) (v : V) → IsSome (at nat_cmp (put nat_cmp es k v) k)
nat_put_there es k v = laws.put_there nat_cmp nat_cmp_total es k v

pub key_without_put : {V : Type 0} (es : List (Key × V)) (k : Key) (v : V) → without key_cmp (put key_cmp es k v) k
    ≡ without key_cmp es k
key_without_put es k v = laws.without_put key_cmp key_total es k v
