-- What a query finds, and the answers that a log calls for; and whether a pack is authentic: by one repository, and by the answers of all
-- that were asked (Delegated Regulation (EU) 2016/161, Articles 11 and 36).
use Rattle.std.specs.Prelude.{◌==◌, ◌&&◌, ◌||◌, ◌∷◌, ◌++◌, if◌then◌else◌}
use Rattle.mv_repository.specs.Words.{ℕ, List, [], Option, Some, None, option_to_list, option_map_or, PackKey, Message, Query, Answer, Found, Item, Carried, LogEntry, batch_key, not, Bool, true, false, length, filter, is_some, list_any, option_or, Receipt, Verdict, Authentic, NotAuthentic, Local, Joint, NotAsked, Pending, Decided}
use Rattle.mv_message.specs.declared.standing.Standing.TheVariants as standings
use Rattle.mv_message.specs.declared.found.Found.TheVariants as founds
use Rattle.mv_repository.specs.declared.verdict.Local.TheVariants.{Absent, Known}
use Rattle.mv_repository.specs.Pack.{is_active, is_recalled, is_withdrawn, pack_state}

-- what a log finds of a pack: how it is held, and whether its batch is recalled and its product withdrawn
abbrev pub found_of : PackKey → List LogEntry → Found
found_of key log = option_map_or (λ held. founds.Present held.batch held.expiry held.national held.standing
    (is_recalled (batch_key key.gtin held.batch) log) (is_withdrawn key.gtin log)) (pack_state key log) founds.Absent

-- the answer that an item from a sender calls for, by these entries, which arrived before it; only a query calls for one
abbrev pub answer_after : List LogEntry → ℕ → Item → Option Message
answer_after log sender (Carried k stamp (Query key)) = Some (Answer sender k key (found_of key log))
answer_after log sender _ = None

-- The answer that an entry calls for, found by the entries that had arrived before it.
abbrev pub answer_to : List LogEntry → LogEntry → Option Message
answer_to log entry = answer_after log entry.sender entry.item

-- the answers that the rest of a log calls for, these entries having arrived before it
abbrev pub answers_from : List LogEntry → List LogEntry → List Message
answers_from before [] = []
answers_from before (entry ∷ rest) = option_to_list (answer_to before entry) ++ answers_from (before ++ entry ∷ []) rest

-- the answers that a log calls for, in order
abbrev pub answers_of : List LogEntry → List Message
answers_of log = answers_from [] log

-- a pack was found active
abbrev pub found_active : Found → Bool
found_active founds.Absent = false
found_active (founds.Present batch expiry national standing recalled withdrawn) = is_active standing

-- a pack was found recalled, withdrawn, or to be destroyed: something other than a falsification explains it
abbrev pub found_explained : Found → Bool
found_explained founds.Absent = false
found_explained (founds.Present batch expiry national standings.Destruction recalled withdrawn) = true
found_explained (founds.Present batch expiry national standing recalled withdrawn) = recalled || withdrawn

-- The verdict where a finding is active or not, and where one is explained or not: authentic where one is active; else a
-- falsification is suspected, unless there is another reason. An active pack is authentic also where it is recalled or
-- withdrawn.
abbrev pub verdict_when : Bool → Bool → Verdict
verdict_when active explained = if active then Authentic else NotAuthentic (not explained)

-- the verdict on what one repository found
abbrev pub local_verdict_of : Found → Local
local_verdict_of founds.Absent = Absent
local_verdict_of found = Known (verdict_when (found_active found) (found_explained found))

-- the verdict of a log on a pack
abbrev pub local_verdict : PackKey → List LogEntry → Local
local_verdict key log = local_verdict_of (found_of key log)

-- the parties that a query was carried to, by the receipt of its sender's q-th message
abbrev pub query_reach : ℕ → Item → Option (List ℕ)
query_reach q (Receipt k reach query) = if (k == q) && query then Some reach else None
query_reach q _ = None

-- the parties that a party's q-th message was carried to as a query, by the first receipt of it; none without one
abbrev pub asked_parties : ℕ → List LogEntry → ℕ → Option (List ℕ)
asked_parties party [] q = None
asked_parties party (entry ∷ log) q =
    option_or (if entry.sender == party then query_reach q entry.item else None) (asked_parties party log q)

-- what an item finds, where it answers a party's query q
abbrev pub finding_in : ℕ → ℕ → Item → Option Found
finding_in party q (Carried k stamp (Answer asker asked key found)) =
    if (asker == party) && (asked == q) then Some found else None
finding_in party q _ = None

-- one party answers a party's query q in a log
abbrev pub has_answered : ℕ → List LogEntry → ℕ → ℕ → Bool
has_answered party log q other =
    list_any (λ entry. (entry.sender == other) && is_some (finding_in party q entry.item)) log

-- some answer to a party's query q, whoever sent it, has found so
abbrev pub has_finding : (Found → Bool) → ℕ → List LogEntry → ℕ → Bool
has_finding test party log q = list_any (λ entry. option_map_or test (finding_in party q entry.item) false) log

-- the verdict once these parties were asked: it waits until each has answered, and goes then by all answers
abbrev pub joint_verdict_when : ℕ → List LogEntry → ℕ → Option (List ℕ) → Joint
joint_verdict_when party log q None = NotAsked
joint_verdict_when party log q (Some parties) =
    let left = length (filter (λ other. not (has_answered party log q other)) parties) in
    if left == 0
    then Decided (verdict_when (has_finding found_active party log q) (has_finding found_explained party log q))
    else Pending left

-- the verdict of all that were asked, on a party's query q, by its log
abbrev pub joint_verdict : ℕ → List LogEntry → ℕ → Joint
joint_verdict party log q = joint_verdict_when party log q (asked_parties party log q)
