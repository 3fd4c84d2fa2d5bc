-- By what a pack is worked out, and what is kept of it, by places in the log: the stops of its batch and of its product, what
-- each of its statuses does, the entry by which it stands behind them, and what many of them do that stand one behind the other;
-- and its history.
use Rattle.std.specs.Prelude.{◌≡◌, if◌then◌else◌, ◌≤◌, ◌+◌, ◌%◌, ◌∷◌, ◌++◌}
use Rattle.mv_repository.specs.Words.{ℕ, List, find, Bool, true, Option, Some, bytes_eq, flat_map, lookup, keys_of, option_map, option_map_or, insert_all, Item, LogEntry, Stop, Stops, OfBatch, OfProduct, is_same_batch, [], take, None, option_and_then, BatchKey, Standing, Message, Status, Effect, BatchStanding, batch_key, ⊤, length, drop, AllByRecursion, PARTIES_LIMIT, PartySet, map, fold, PackKey, Block, IfSome, slice_get, has_party}
use Rattle.mv_repository.specs.Order.{Placed, passes, ordered, stands_before}
use Rattle.mv_repository.specs.Pack.{is_recall_of, is_withdrawal_of, effect_of, KnownPack, KnownChange, is_active, is_done, change_effect}
use Rattle.mv_repository.specs.Repository.{recalled_in}
use Rattle.mv_repository.specs.Bearing.{FirstStops, entry_at, first_stops, first_upload, message_in, pack_made_by, standing_at, statuses_of, withdrawn_in}
use Rattle.mv_repository.specs.declared.state.Basis.{Basis}
use Rattle.mv_repository.specs.declared.blocks.Cut.{Cut}
use Rattle.mv_repository.specs.declared.history.Places.{Places}
use Rattle.mv_repository.specs.Agreement.{PackHistory}
use Rattle.mv_message.specs.declared.standing.Standing.TheVariants as standings
use Rattle.mv_repository.specs.declared.effect.Effect.TheVariants as effects

-- the place in the log of an entry, counted from 0
abbrev pub place_of : Placed → ℕ
place_of placed = placed.place

-- what the tables find in a log
abbrev pub stops_in : List LogEntry → Stops → FirstStops
stops_in log tables = record {
  recall = λ batch. option_map (entry_at log) (lookup (is_same_batch batch) tables.recalls.entries);
  withdrawal = λ gtin. option_map (entry_at log) (lookup (bytes_eq gtin) tables.withdrawals.entries);
}

-- an item stops packs so
abbrev pub is_stop : Stop → Item → Bool
is_stop (OfBatch batch) item = is_recall_of batch.now item
is_stop (OfProduct gtin) item = is_withdrawal_of gtin.now item

-- the product of the packs that are stopped so
abbrev pub stopped_product : Stop → List ℕ
stopped_product (OfBatch batch) = batch.now.gtin
stopped_product (OfProduct gtin) = gtin.now

-- a table of keys has the first of each kind, by stamp, and the keys, each once, in the order in which they arrived
pub record AreFirstsOf {K : Type 0} (same : K → K → Bool) (is_of : K → Item → Bool) (keys_in : Item → List K) (log : List LogEntry) (places : List (K × ℕ)) : Type 0 where
  pub found : (key : K) → lookup (same key) places ≡ option_map place_of (find (λ placed. is_of key placed.entry.item) (ordered log))
  pub keys : keys_of places ≡ insert_all same [] (flat_map (λ entry. keys_in entry.item) log)

-- the tables are those of a log
pub record AreStopsOf (log : List LogEntry) (tables : Stops) : Type 0 where
  pub recalls : AreFirstsOf is_same_batch is_recall_of recalled_in log tables.recalls.entries
  pub withdrawals : AreFirstsOf bytes_eq is_withdrawal_of withdrawn_in log tables.withdrawals.entries

-- the newest entry comes first: there is none so far, or it stands before the first so far, which is at that place
abbrev pub comes_first : List LogEntry → ℕ → Option ℕ → Bool
comes_first log new first = option_map_or (λ one. passes (entry_at log new) (entry_at log one)) first true

-- the batch of the packs that an entry uploads
abbrev pub made_batch : Placed → Option (List ℕ)
made_batch placed = option_map (λ (made : KnownPack). made.batch) (pack_made_by placed.entry.item)

-- how a pack stands that stands by a message: as a status asked, else active
abbrev pub standing_of : Option Message → Standing
standing_of (Some (Status key to user at)) = to
standing_of _ = standings.Active

-- what took it from active, where it stands by a status of a sender at a place of the log
abbrev pub change_of : ℕ → ℕ → Message → Option KnownChange
change_of place sender (Status key to user at) = Some (record { by = sender; user = user; at = at; entry = place })
change_of place sender _ = None

abbrev pub change_in : Placed → Option KnownChange
change_in placed = option_and_then (change_of placed.place placed.entry.sender) (message_in placed.entry.item)

-- the pack that an upload made, where it stands by an entry
abbrev pub known_at : Placed → Placed → Option KnownPack
known_at birth by =
    option_map
    (λ (made : KnownPack). record made { standing = standing_of (message_in by.entry.item); change = change_in by })
    (pack_made_by birth.entry.item)

-- the effect of an item on a pack that is held, where it is a status of it
abbrev pub effect_from : (BatchKey → BatchStanding) → ℕ → Option Message → List ℕ → KnownPack → Effect
effect_from standing sender (Some (Status key to user at)) gtin held =
    change_effect held (standing (batch_key gtin held.batch)) to sender user at
effect_from standing sender _ gtin held = effects.Noted

-- the effect of a status on a pack of a product, by its first upload and by the entry by which it stands; none stands
-- before that upload
abbrev pub effect_on : FirstStops → List ℕ → Placed → Placed → Placed → Effect
effect_on stops gtin birth by placed =
    if stands_before birth placed
    then option_map_or (effect_from (standing_at stops placed) placed.entry.sender (message_in placed.entry.item) gtin) (known_at birth by) effects.Unknown
    else effects.Unknown

-- what the newest entry of a log does, which stands at a place
abbrev pub newest_effect : List LogEntry → ℕ → Effect
newest_effect log place = effect_of (take place log) (entry_at log place).entry

-- By which entry the pack stands then: a change is by the status, and a revert leaves the pack as its upload made it.
abbrev pub next_by : FirstStops → List ℕ → Option Placed → Placed → Placed → Placed
next_by stops gtin None by placed = by
next_by stops gtin (Some birth) by placed =
    if is_done (effect_on stops gtin birth by placed)
    then (if is_active (standing_of (message_in placed.entry.item)) then birth else placed)
    else by

-- the same by places in a log
abbrev pub next_place : List LogEntry → FirstStops → List ℕ → ℕ → ℕ → ℕ → ℕ
next_place log stops gtin birth by place =
    (next_by stops gtin (Some (entry_at log birth)) (entry_at log by) (entry_at log place)).place

-- the effect of the status at a place, where the pack stands by an entry; and by which entry the pack stands then
abbrev pub effect_in : Basis → ℕ → ℕ → Effect
effect_in basis by place =
    effect_on (stops_in basis.log.now basis.stops.now) basis.gtin.now (entry_at basis.log.now basis.birth) (entry_at basis.log.now by) (entry_at basis.log.now place)

abbrev pub next_in : Basis → ℕ → ℕ → ℕ
next_in basis = next_place basis.log.now (stops_in basis.log.now basis.stops.now) basis.gtin.now basis.birth

-- an entry is no revert, or its sender may be among these: a set seems to have all whose numbers differ from that of one by the
-- greatest number of parties
abbrev pub IsCovered : PartySet → Placed → Type 0
IsCovered senders placed = is_active (standing_of (message_in placed.entry.item)) ≡ true → has_party senders (placed.entry.sender % PARTIES_LIMIT) ≡ true

-- What is known of a block by the statuses in it: what they leave of a pack that comes to them active, and whose reverts are
-- among them. Of too many senders is right, of too few is not.
abbrev pub IsSummary : {A : Type 0} → (A → Placed) → (A → A → A) → A → Block → List A → Type 0
IsSummary entry next start block own =
    (block.of_active ≡ (entry (fold next start own)).place) × AllByRecursion (λ status. IsCovered block.reverters (entry status)) own

-- blocks are those of the first of these statuses, of a pack that comes to them by an entry
abbrev pub AreBlocks : {A : Type 0} → (A → Placed) → (A → A → A) → A → A → List Block → List A → Type 0
AreBlocks entry next start by [] own = ⊤
AreBlocks entry next start by (block ∷ rest) own =
    (block.count ≤ length own) × (block.after ≡ (entry (fold next by (take block.count own))).place)
    × IsSummary entry next start block (take block.count own)
    × AreBlocks entry next start (fold next by (take block.count own)) rest (drop block.count own)

-- blocks that are right in front of others, where these go by the rest of the statuses, to which the pack comes by an entry
abbrev pub IsFront : (ℕ → Placed) → (ℕ → ℕ → ℕ) → ℕ → List Block → List ℕ → ℕ → List ℕ → Type 0
IsFront entry next start blocks own by rest =
    (more : List Block) → AreBlocks entry next start by more rest → AreBlocks entry next start start (blocks ++ more) own

-- some of these blocks end at a cut
pub record IsCut (entry : ℕ → Placed) (next : ℕ → ℕ → ℕ) (start : ℕ) (blocks : List Block) (own : List ℕ) (cut : Cut) : Type 0 where
  pub within : cut.start ≤ length own
  pub by : cut.by ≡ fold next start (take cut.start own)
  pub front : (rest : List ℕ) → IsFront entry next start (take cut.number blocks) (take cut.start own ++ rest) cut.by rest
  pub behind : AreBlocks entry next start cut.by (drop cut.number blocks) (drop cut.start own)

-- statuses but for the one at a place
abbrev pub without : List ℕ → ℕ → List ℕ
without own at = take at own ++ drop (at + 1) own

-- what a log means for a pack: its first upload, its statuses, and by which entry it stands behind one of them, where it
-- stood by another
pub record Life : Type 0 where
  pub birth : Option Placed
  pub statuses : List Placed
  pub next : Placed → Placed → Placed

abbrev pub life_of : PackKey → List LogEntry → Life
life_of pack log = record {
  birth = first_upload pack (ordered log);
  statuses = statuses_of pack (ordered log);
  next = next_by (first_stops (ordered log)) pack.gtin (first_upload pack (ordered log));
}

-- what is kept of a pack, by places in the log
pub record Kept : Type 0 where
  pub birth : Option ℕ
  pub statuses : List ℕ
  pub by : ℕ  -- the entry by which it stands behind all
  pub blocks : List Block  -- what many statuses do, as far as that is known

-- what is to be kept of a pack, but for the blocks
abbrev pub kept_of : Life → Kept
kept_of life = record {
  birth = option_map place_of life.birth;
  statuses = map place_of life.statuses;
  by = option_map_or (λ birth. (fold life.next birth life.statuses).place) life.birth 0;
  blocks = [];
}

-- a pack is kept as a log means it, and its blocks are those of its first statuses
pub record IsKept (life : Life) (kept : Kept) : Type 0 where
  pub bare : record kept { blocks = [] } ≡ kept_of life
  pub blocks : IfSome life.birth (λ birth. AreBlocks (λ placed. placed) life.next birth birth kept.blocks life.statuses)

-- a pack is worked out, by places in a log
pub record IsTrack (log : List LogEntry) (stops : FirstStops) (gtin : List ℕ) (kept : Kept) : Type 0 where
  pub by : kept.by ≡ option_map_or (λ birth. fold (next_place log stops gtin birth) birth kept.statuses) kept.birth 0
  pub blocks : IfSome kept.birth (λ birth. AreBlocks (entry_at log) (next_place log stops gtin birth) birth birth kept.blocks kept.statuses)

-- an entry is the one at its place in a log
abbrev pub IsAt : List LogEntry → Placed → Type 0
IsAt log placed = slice_get log placed.place ≡ Some placed.entry

-- so is each of a history
abbrev pub AreAt : List LogEntry → PackHistory → Type 0
AreAt log history =
    IfSome history.upload (IsAt log) × AllByRecursion (IsAt log) history.statuses × IfSome history.recall (IsAt log) × IfSome history.withdrawal (IsAt log)

-- a history by its places in a log
abbrev pub history_at : Places → PackHistory
history_at places = record {
  upload = option_map (entry_at places.log.now) places.upload;
  statuses = map (entry_at places.log.now) places.statuses.now;
  recall = option_map (entry_at places.log.now) places.recall;
  withdrawal = option_map (entry_at places.log.now) places.withdrawal;
}
