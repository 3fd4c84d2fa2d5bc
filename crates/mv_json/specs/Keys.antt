-- The keys of objects, which stand in byte order.
use Rattle.std.specs.Prelude.{⊤}
use Rattle.mv_json.specs.Words.{Data, IsStrictlySortedBy, Items, Members, array, item, member, nat_cmp, no_items, no_members, object, slice_cmp}
use Rattle.mv_json.specs.Members.{keys_of}

abbrev mutual
  -- in each object that a value is or holds, the keys ascend in byte order, each once
  pub KeysAscend : Data → Type 0
  KeysAscend (array items) = ItemsKeysAscend items
  KeysAscend (object members) =
      IsStrictlySortedBy (slice_cmp nat_cmp) (keys_of members) × MembersKeysAscend members
  KeysAscend value = ⊤

  pub ItemsKeysAscend : Items → Type 0
  ItemsKeysAscend no_items = ⊤
  ItemsKeysAscend (item value items) = KeysAscend value × ItemsKeysAscend items

  pub MembersKeysAscend : Members → Type 0
  MembersKeysAscend no_members = ⊤
  MembersKeysAscend (member key value members) = KeysAscend value × MembersKeysAscend members
