-- What a repository knows of a pack, of a batch and of a product: what one status does to a pack, and what a log means for one pack, whose
-- entries are read in the order of stamps (Delegated Regulation (EU) 2016/161, Articles 13, 36 and 40); and what applying an entry does.
use Rattle.std.specs.Prelude.{◌≡◌, ◌∷◌, ◌++◌, ◌+◌, ◌*◌, ◌==◌, ◌&&◌, if◌then◌else◌, ◌-◌}
use Rattle.mv_repository.specs.Words.{ℕ, nat_lt, List, not, Bool, true, false, Option, Some, None, bytes_eq, Standing, Effect, BatchStanding, [], IfSome, slice_get, list_any, option_map, option_or, PackKey, BatchKey, Upload, Status, Withdraw, Item, Carried, LogEntry, Recall, Held, is_same_pack, is_same_batch, batch_key, length, filter, is_some, codes, option_map_or, distinct_count, Master, pack_key}
use Rattle.mv_pack.specs.Expiry.{CivilDate, seconds_of_day, is_expired_at}
use Rattle.mv_message.specs.declared.standing.Standing.TheVariants as standings
use Rattle.mv_repository.specs.declared.effect.Effect.TheVariants as effects
use Rattle.mv_repository.specs.Order.{Placed, ordered, passes}

-- a change of a pack from active: the party and the user who asked for it, the moment that they gave, and the place of
-- the status in the log, counted from 0
pub record KnownChange : Type 0 where
  pub by : ℕ
  pub user : List ℕ
  pub at : ℕ
  pub entry : ℕ

-- a pack, with all that decides what later entries do to it
pub record KnownPack : Type 0 where
  pub batch : List ℕ
  pub expiry : CivilDate
  pub national : Option (List ℕ)
  pub standing : Standing
  pub change : Option KnownChange

-- a pack stands active: it may be supplied, unless the recall of its batch, the withdrawal of its product or its expiry stands against that
abbrev pub is_active : Standing → Bool
is_active standings.Active = true
is_active _ = false

-- a standing that is never reverted (Article 13(1)(d); a repackaged pack is no more)
abbrev pub is_final : Standing → Bool
is_final standings.Destruction = true
is_final standings.Stolen = true
is_final standings.Repackaged = true
is_final _ = false

-- a pack as an upload brings it: active, and never changed
abbrev pub new_pack : List ℕ → CivilDate → Option (List ℕ) → KnownPack
new_pack batch expiry national =
    record { batch = batch; expiry = expiry; national = national; standing = standings.Active; change = None }

-- the seconds within which a change may be reverted: ten days (Article 13(1)(b))
abbrev pub revert_seconds : ℕ
revert_seconds = 10 * seconds_of_day

-- What a revert does to a pack that was changed: the first of these that holds. It is refused to another party or user,
-- before the change, more than ten days after it, once the pack has expired, and where its batch is recalled or its
-- product withdrawn (Article 13(1)).
abbrev pub revert_effect : CivilDate → BatchStanding → Option KnownChange → ℕ → List ℕ → ℕ → Effect
revert_effect expiry batch None sender user at = effects.OtherUser
revert_effect expiry batch (Some change) sender user at =
    if not ((change.by == sender) && bytes_eq change.user user) then effects.OtherUser
    else (if nat_lt at change.at then effects.TooEarly
    else (if nat_lt (change.at + revert_seconds) at then effects.TooLate
    else (if is_expired_at expiry at then effects.Expired
    else (if batch.recalled then effects.Recalled
    else (if batch.withdrawn then effects.Withdrawn
    else effects.Done)))))

-- what a status does to a pack that is held, its batch standing so: the first of these that holds
abbrev pub change_effect : KnownPack → BatchStanding → Standing → ℕ → List ℕ → ℕ → Effect
change_effect pack batch to sender user at =
    if is_active to
    then (if is_active pack.standing then effects.AlreadyActive
    else (if is_final pack.standing then effects.Fixed
    else revert_effect pack.expiry batch pack.change sender user at))
    else (if is_active pack.standing then effects.Done else effects.NotActive)

-- what was asked for was done
abbrev pub is_done : Effect → Bool
is_done effects.Done = true
is_done _ = false

-- a pack that is held, once a status comes that stands at a place of the log: only one that is done changes it, and a
-- revert leaves no change
abbrev pub pack_after_status : KnownPack → BatchStanding → Standing → ℕ → List ℕ → ℕ → ℕ → KnownPack
pack_after_status pack batch to sender user at entry =
    if is_done (change_effect pack batch to sender user at)
    then record pack {
      standing = to;
      change = if is_active to then None else Some (record { by = sender; user = user; at = at; entry = entry });
    }
    else pack

-- an item is a recall of a batch
abbrev pub is_recall_of : BatchKey → Item → Bool
is_recall_of batch (Carried k stamp (Recall key at)) = is_same_batch key batch
is_recall_of batch _ = false

-- an item is a withdrawal of a product
abbrev pub is_withdrawal_of : List ℕ → Item → Bool
is_withdrawal_of gtin (Carried k stamp (Withdraw named at)) = bytes_eq named gtin
is_withdrawal_of gtin _ = false

-- these packs of a product have the pack among them
abbrev pub has_pack : List ℕ → List (List ℕ) → PackKey → Bool
has_pack gtin serials pack = bytes_eq gtin pack.gtin && list_any (λ serial. bytes_eq serial pack.serial) serials

-- a batch is recalled by these entries: one recall holds for ever
abbrev pub is_recalled_by : BatchKey → List Placed → Bool
is_recalled_by batch entries = list_any (λ placed. is_recall_of batch placed.entry.item) entries

-- a product is withdrawn by these entries: one withdrawal holds for ever
abbrev pub is_withdrawn_by : List ℕ → List Placed → Bool
is_withdrawn_by gtin entries = list_any (λ placed. is_withdrawal_of gtin placed.entry.item) entries

-- how a batch stands by these entries
abbrev pub batch_standing : List Placed → BatchKey → BatchStanding
batch_standing entries batch = record { recalled = is_recalled_by batch entries; withdrawn = is_withdrawn_by batch.gtin entries }

-- A pack once an item from a sender comes that stands at a place of the log, batches standing so before it. The first
-- upload that names a pack makes it; only statuses change it.
abbrev pub pack_after_item : (BatchKey → BatchStanding) → ℕ → ℕ → Item → PackKey → Option KnownPack → Option KnownPack
pack_after_item standing place sender (Carried k stamp (Upload gtin batch expiry national serials)) pack known =
    if has_pack gtin serials pack then option_or known (Some (new_pack batch expiry national)) else known
pack_after_item standing place sender (Carried k stamp (Status key to user at)) pack known =
    if is_same_pack key pack
    then option_map (λ held. pack_after_status held (standing (batch_key pack.gtin held.batch)) to sender user at place) known
    else known
pack_after_item standing place sender _ pack known = known

-- a pack once the rest of these entries follow those before
abbrev pub known_pack_from : List Placed → List Placed → PackKey → Option KnownPack → Option KnownPack
known_pack_from before [] pack known = known
known_pack_from before (placed ∷ rest) pack known =
    known_pack_from (before ++ placed ∷ []) rest pack
    (pack_after_item (batch_standing before) placed.place placed.entry.sender placed.entry.item pack known)

-- a pack by these entries, in this order; none where no upload names it
abbrev pub known_pack : PackKey → List Placed → Option KnownPack
known_pack pack entries = known_pack_from [] entries pack None

-- a pack as a repository shows it; the user of its change is that of the status at its place in the log
abbrev pub held_of : KnownPack → Held
held_of pack = record {
  batch = pack.batch;
  expiry = pack.expiry;
  national = pack.national;
  standing = pack.standing;
  change = option_map (λ (change : KnownChange). record { by = change.by; at = change.at; entry = change.entry }) pack.change;
}

-- a pack by a log
abbrev pub pack_state : PackKey → List LogEntry → Option Held
pack_state pack log = option_map held_of (known_pack pack (ordered log))

-- a recall of a batch stands in a log
abbrev pub is_recalled : BatchKey → List LogEntry → Bool
is_recalled batch log = is_recalled_by batch (ordered log)

-- a withdrawal of a product stands in a log
abbrev pub is_withdrawn : List ℕ → List LogEntry → Bool
is_withdrawn gtin log = is_withdrawn_by gtin (ordered log)

-- the log has, at the place that a change names, the status of a pack that made it: from the party of the change, to the
-- standing, by the user and at the moment of the change
pub record NamesStatus (log : List LogEntry) (pack : PackKey) (standing : Standing) (change : KnownChange) : Type 0 where
  pub k : ℕ
  pub stamp : ℕ
  pub key : PackKey
  pub same : is_same_pack key pack ≡ true
  pub there : slice_get log change.entry ≡ Some (record { sender = change.by; item = Carried k stamp (Status key standing change.user change.at) })

-- where a pack was changed, the change names the status that took the pack to its standing
abbrev pub ChangeNamesStatus : PackKey → List LogEntry → Type 0
ChangeNamesStatus pack log = IfSome (known_pack pack (ordered log)) (λ held. IfSome held.change (NamesStatus log pack held.standing))

-- The entries of a log that stand before one that comes last, in the order of stamps: all but those that it passes.
abbrev pub entries_before : List LogEntry → LogEntry → List Placed
entries_before log entry = filter (λ placed. not (passes (record { place = length log; entry = entry }) placed)) (ordered log)

-- the effect of an upload: how many packs it makes, which are those that these entries don't make, one that it names twice
-- once; and how many of its serial numbers make none
abbrev pub upload_effect : List Placed → List ℕ → List (List ℕ) → Effect
upload_effect before gtin serials =
    let new = distinct_count bytes_eq (filter (λ serial. not (is_some (known_pack (pack_key gtin serial) before))) serials) in
    effects.Uploaded new (length serials - new)

-- the effect of what holds for ever: it is done once
abbrev pub lasting_effect : Bool → Effect
lasting_effect held_before = if held_before then effects.Noted else effects.Done

-- the effect of an item from a sender, by the entries that stand before it
abbrev pub effect_after : List Placed → ℕ → Item → Effect
effect_after before sender (Carried k stamp (Master gtin product)) = effects.Done
effect_after before sender (Carried k stamp (Upload gtin batch expiry national serials)) = upload_effect before gtin serials
effect_after before sender (Carried k stamp (Status key to user at)) =
    option_map_or (λ held. change_effect held (batch_standing before (batch_key key.gtin held.batch)) to sender user at)
    (known_pack key before) effects.Unknown
effect_after before sender (Carried k stamp (Recall key at)) = lasting_effect (is_recalled_by key before)
effect_after before sender (Carried k stamp (Withdraw gtin at)) = lasting_effect (is_withdrawn_by gtin before)
effect_after before sender _ = effects.Noted

-- the effect of an entry that comes last, at its own place in the order of stamps
abbrev pub effect_of : List LogEntry → LogEntry → Effect
effect_of log entry = effect_after (entries_before log entry) entry.sender entry.item

-- the number of an effect
abbrev pub code_of : Effect → List ℕ
code_of effects.Done = codes "E1"
code_of effects.Unknown = codes "E2"
code_of effects.NotActive = codes "E3"
code_of effects.AlreadyActive = codes "E4"
code_of effects.Fixed = codes "E5"
code_of effects.OtherUser = codes "E6"
code_of effects.TooEarly = codes "E7"
code_of effects.TooLate = codes "E8"
code_of effects.Expired = codes "E9"
code_of effects.Recalled = codes "E10"
code_of effects.Noted = codes "E11"
code_of (effects.Uploaded new old) = codes "E12"
code_of effects.Withdrawn = codes "E13"
