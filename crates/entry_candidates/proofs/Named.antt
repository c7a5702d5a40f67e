-- The laws of tables at the two kinds of keys, under names that a function can cite.
use Rattle.std.proofs.Common.{Bool, IsSome, List, None, Some, [], ap, refl, sym, take, ◌+◌, ◌<◌, ◌++◌, ◌∙◌, ◌∷◌, ◌≡◌, ℕ, get_or, length}
use Rattle.part_model.specs.Queues.{Queues, with_queue_in}
use Rattle.ignite_types.proofs.NameLaws.{exact_keys, exact_txs, key_total, tx_total}
use Rattle.ignite_types.specs.Names.{key_cmp, tx_cmp}
use Rattle.ignite_types.specs.declared.names.TxId.{TxId}
use Rattle.ignite_types.specs.declared.text.Key.{Key}
use Rattle.ordered_table.proofs.Copies as copies
use Rattle.ordered_table.proofs.Laws as laws
use Rattle.ordered_table.specs.Entries.{at, put, without}
use Rattle.ordered_table.specs.Places.{IsAscending}
use Rattle.ordered_table.specs.declared.table.Table.{Table}
use Rattle.entry_candidates.proofs.Tables as tables
use Rattle.entry_candidates.specs.Owning.{front_of}
use Rattle.entry_candidates.specs.Placing.{Places, with_table}
use Rattle.entry_candidates.specs.Taking.{IsLast, TakesQueue, TakesTable}

pub key_put_put : {V : Type 0} (es : List (Key × V)) (k : Key) (v w : V) →
    put key_cmp (put key_cmp es k v) k w ≡ put key_cmp es k w
key_put_put es k v w = laws.put_put key_cmp key_total es k v w

pub key_put_there : {V : Type 0} (es : List (Key × V)) (k : Key) (v : V) → IsSome (at key_cmp (put key_cmp es k v) k)
key_put_there es k v = laws.put_there key_cmp key_total es k v

pub key_put_back : {V : Type 0} (es : List (Key × V)) (k : Key) (v w : V) → at key_cmp es k ≡ Some v →
    put key_cmp (put key_cmp es k w) k v ≡ es
key_put_back es k v w is = tables.put_back key_cmp exact_keys key_total es k v w is

pub key_absent : {V : Type 0} (es : List (Key × V)) (k : Key) → at key_cmp es k ≡ None → without key_cmp es k ≡ es
key_absent es k none = tables.without_absent key_cmp es k none

pub queue_back : (queues : Queues) (key : Key) (xs ys : List TxId) → with_queue_in (put key_cmp queues key xs) key ys
    ≡ with_queue_in queues key ys
queue_back queues key xs ys = tables.list_back key_cmp exact_keys key_total queues key xs ys

pub queue_put : (queues : Queues) (key : Key) (xs : List TxId) (tx : TxId) → with_queue_in queues key (xs ++ tx ∷ [])
    ≡ put key_cmp queues key (xs ++ tx ∷ [])
queue_put queues key xs tx = tables.put_list key_cmp exact_keys key_total queues key xs tx

-- a queue that was taken out and is put back unchanged
pub queue_aside : (old new : Queues) (key : Key) (queue : List TxId) → TakesQueue old new key queue →
    put key_cmp new key queue ≡ old
queue_aside old new key queue taken = rw taken.vacant (key_put_back old key queue [] taken.was)

pub tx_put_put : {V : Type 0} (es : List (TxId × V)) (k : TxId) (v w : V) →
    put tx_cmp (put tx_cmp es k v) k w ≡ put tx_cmp es k w
tx_put_put es k v w = laws.put_put tx_cmp tx_total es k v w

pub tx_put_there : {V : Type 0} (es : List (TxId × V)) (k : TxId) (v : V) → IsSome (at tx_cmp (put tx_cmp es k v) k)
tx_put_there es k v = laws.put_there tx_cmp tx_total es k v

pub tx_put_back : {V : Type 0} (es : List (TxId × V)) (k : TxId) (v w : V) → at tx_cmp es k ≡ Some v →
    put tx_cmp (put tx_cmp es k w) k v ≡ es
tx_put_back es k v w is = tables.put_back tx_cmp exact_txs tx_total es k v w is

pub tx_absent : {V : Type 0} (es : List (TxId × V)) (k : TxId) → at tx_cmp es k ≡ None → without tx_cmp es k ≡ es
tx_absent es k none = tables.without_absent tx_cmp es k none

pub table_back : (places : Places) (tx : TxId) (xs ys : Table Key Bool) → with_table (put tx_cmp places tx xs) tx ys
    ≡ with_table places tx ys
table_back places tx xs ys = tables.list_back tx_cmp exact_txs tx_total places tx xs ys

pub table_aside : (old new : Places) (tx : TxId) (table : Table Key Bool) → TakesTable old new tx table →
    put tx_cmp new tx table ≡ old
table_aside old new tx table taken = rw taken.vacant (tx_put_back old tx table [] taken.was)

-- one entry more of a copy
pub key_copied : {V : Type 0} (es : List (Key × V)) (i : ℕ) (d : Key × V) → IsAscending key_cmp es → i < length es →
    put key_cmp (take i es) (get_or es i d).0 (get_or es i d).1 ≡ take (i + 1) es
key_copied = copies.copied_more key_cmp key_total

pub front_before : (queue : List TxId) (tx : TxId) → front_of (queue ++ tx ∷ []) ≡ queue
front_before [] tx = refl
front_before (u ∷ []) tx = refl
front_before (u ∷ v ∷ queue) tx = ap (λ r. u ∷ r) (front_before (v ∷ queue) tx)

pub front_is : (queue rest : List TxId) (tx : TxId) → queue ≡ rest ++ tx ∷ [] → front_of queue ≡ rest
front_is queue rest tx parts = ap front_of parts ∙ front_before rest tx

pub last_is : (queue rest : List TxId) (tx : TxId) → queue ≡ rest ++ tx ∷ [] → IsLast queue tx
last_is queue rest tx parts = record { parts = parts ∙ ap (λ r. r ++ tx ∷ []) (sym (front_is queue rest tx parts)) }
