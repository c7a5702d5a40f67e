-- The orders of names, versions and keys: each is compared field by field, the first field first.
use Rattle.std.specs.Prelude.{Bool, ◌==◌, ◌&&◌, nat_eq}
use Rattle.std.specs.declared.cmp.Ordering.{Ordering}
use Rattle.std.specs.Ordering.{nat_cmp, ordering_then}
use Rattle.std.specs.Cmp.Lexicographic.{slice_cmp, pointwise}
use Rattle.ignite_types.specs.declared.names.NodeId.{NodeId}
use Rattle.ignite_types.specs.declared.names.TopVer.{TopVer}
use Rattle.ignite_types.specs.declared.names.CacheVersion.{CacheVersion}
use Rattle.ignite_types.specs.declared.names.TxId.{TxId}
use Rattle.ignite_types.specs.declared.text.Key.{Key}
use Rattle.ignite_types.specs.declared.placement.Share.{Share}

abbrev pub node_cmp : NodeId → NodeId → Ordering
node_cmp a b = nat_cmp a.0 b.0

abbrev pub top_cmp : TopVer → TopVer → Ordering
top_cmp a b = ordering_then (nat_cmp a.major b.major) (nat_cmp a.minor b.minor)

abbrev pub version_cmp : CacheVersion → CacheVersion → Ordering
version_cmp a b = ordering_then (top_cmp a.top b.top) (ordering_then (nat_cmp a.order b.order) (node_cmp a.node b.node))

abbrev pub tx_cmp : TxId → TxId → Ordering
tx_cmp a b = ordering_then (node_cmp a.node b.node) (ordering_then (nat_cmp a.session b.session) (nat_cmp a.number b.number))

abbrev pub key_cmp : Key → Key → Ordering
key_cmp a b = ordering_then (nat_cmp a.cache b.cache) (slice_cmp nat_cmp a.text b.text)

abbrev pub share_cmp : Share → Share → Ordering
share_cmp a b = ordering_then (node_cmp a.holder b.holder) (node_cmp a.primary b.primary)

abbrev pub same_node : NodeId → NodeId → Bool
same_node a b = a.0 == b.0

abbrev pub same_top : TopVer → TopVer → Bool
same_top a b = (a.major == b.major) && (a.minor == b.minor)

abbrev pub same_tx : TxId → TxId → Bool
same_tx a b = same_node a.node b.node && (a.session == b.session) && (a.number == b.number)

abbrev pub same_key : Key → Key → Bool
same_key a b = (a.cache == b.cache) && pointwise nat_eq a.text b.text
