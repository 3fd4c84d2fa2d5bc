-- The lines that show what stands, each by the members of its object: their keys stand in byte order.
use Rattle.std.specs.Prelude.{ℕ, List, [], ◌∷◌, ◌++◌, map, length, codes, ◌||◌, not, nat_lt, if◌then◌else◌, Some, None, option_map, option_to_list}
use Rattle.mv_show.specs.Words.{flat_map, range_with_len, batch_key, Carried, Item, Master, Status, LogEntry, Open, Subject, Party, Product, Pack}
use Rattle.std.specs.Option.{option_map_or}
use Rattle.serde_json.specs.Data.{Data, null, boolean, string, array}
use Rattle.serde_json.specs.Written.{compact_text}
use Rattle.mv_pack.specs.declared.key.BatchKey.{BatchKey}
use Rattle.mv_pack.specs.declared.key.PackKey.{PackKey}
use Rattle.mv_pack.specs.Expiry.{expiry_text}
use Rattle.mv_message.specs.Standings.{standing_name}
use Rattle.mv_json.specs.Messages.{value_of}
use Rattle.mv_json.specs.Values.{whole}
use Rattle.mv_hub.specs.Hub.{items_on, sent_of}
use Rattle.mv_hub.specs.Record.{is_open, routed_count}
use Rattle.mv_repository.specs.declared.held.Held.{Held}
use Rattle.mv_repository.specs.Pack.{pack_state, is_recalled, is_withdrawn}
use Rattle.mv_repository.specs.Repository.{counts_of, product_of}
use Rattle.mv_repository.specs.Bearing.{entry_at}
use Rattle.mv_machine.specs.State.{State, submissions_of, log_of, wire_of, applied_count}
use Rattle.mv_format.specs.KeyOrder.{IsOrdered}
use Rattle.mv_format.specs.Objects.{object_of}
use Rattle.mv_format.specs.Writing.{change_value, national_value}
use Rattle.mv_format.specs.Openings.{code_of}
use Rattle.mv_format.specs.ReplyLines.{wholes}
use Rattle.mv_engine.specs.Replies.{text_lines}
use Rattle.mv_format.specs.declared.open_fault.OpenFault.TheVariants.{NotOpen}
use Rattle.mv_show.specs.declared.subject.Subject.TheVariants.{Recall}
use Rattle.mv_show.specs.Subjects.{subjects_of}

-- a line, by the keys and values of its object
abbrev pub Row : Type 0
Row = List (List ℕ × Data)

-- how much a party has: the counts of its log, what it submitted, and what of that was routed
abbrev pub party_row : State → ℕ → Row
party_row st party =
    let counts = counts_of (log_of st party) in
    (codes "active", whole counts.active) ∷ (codes "applied", whole counts.entries) ∷ (codes "packs", whole counts.packs)
    ∷ (codes "party", whole party) ∷ (codes "products", whole counts.products) ∷ (codes "recalled", whole counts.recalled)
    ∷ (codes "routed", whole (routed_count st.hub.entries party)) ∷ (codes "show", string (codes "party"))
    ∷ (codes "submitted", whole (length (submissions_of st party))) ∷ []

-- what a log means for a product: its master as `canon` writes it, null where there is none
abbrev pub product_row : ℕ → List LogEntry → List ℕ → Row
product_row party log gtin =
    (codes "gtin", string gtin) ∷ (codes "party", whole party)
    ∷ (codes "product", option_map_or value_of (option_map (Master gtin) (product_of log gtin)) null)
    ∷ (codes "show", string (codes "product")) ∷ (codes "withdrawn", boolean (is_withdrawn gtin log)) ∷ []

-- a batch that is recalled
abbrev pub recall_row : ℕ → BatchKey → Row
recall_row party key =
    (codes "batch", string key.batch) ∷ (codes "gtin", string key.gtin) ∷ (codes "party", whole party)
    ∷ (codes "show", string (codes "recall")) ∷ []

-- the user of a status; none of another item
abbrev pub user_in : Item → List ℕ
user_in (Carried k stamp (Status key to user at)) = user
user_in _ = []

-- a pack that is held by a log; the user who asked for its change is the one whom the status in the log names
abbrev pub pack_row : ℕ → List LogEntry → PackKey → Held → Row
pack_row party log key held =
    (codes "batch", string held.batch)
    ∷ (codes "change", change_value held.change (option_map_or (λ change. user_in (entry_at log change.entry).entry.item) held.change []))
    ∷ (codes "expiry", string (expiry_text held.expiry)) ∷ (codes "gtin", string key.gtin)
    ∷ (codes "national", national_value held.national) ∷ (codes "party", whole party)
    ∷ (codes "recalled", boolean (is_recalled (batch_key key.gtin held.batch) log)) ∷ (codes "serial", string key.serial)
    ∷ (codes "show", string (codes "pack")) ∷ (codes "standing", string (standing_name held.standing))
    ∷ (codes "withdrawn", boolean (is_withdrawn key.gtin log)) ∷ []

-- the line that tells of a subject of a party: of a pack there is one where an upload names it
abbrev pub subject_rows : State → ℕ → Subject → List Row
subject_rows st party Party = party_row st party ∷ []
subject_rows st party (Product gtin) = product_row party (log_of st party) gtin ∷ []
subject_rows st party (Recall key) = recall_row party key ∷ []
subject_rows st party (Pack key) = option_to_list (option_map (pack_row party (log_of st party) key) (pack_state key (log_of st party)))

-- the lines of a party
abbrev pub party_rows : State → ℕ → List Row
party_rows st party = flat_map (subject_rows st party) (subjects_of (log_of st party))

-- how far a link is: what its repository applied, what was put on it and relayed, and the numbers of the frames under way
abbrev pub link_row : State → ℕ → ℕ → Row
link_row st from to =
    (codes "applied", whole (applied_count st from to)) ∷ (codes "closed", boolean (not (is_open st.hub.entries from to)))
    ∷ (codes "from", whole from) ∷ (codes "put", whole (length (items_on st.hub from to)))
    ∷ (codes "relayed", whole (sent_of st.hub from to)) ∷ (codes "show", string (codes "link")) ∷ (codes "to", whole to)
    ∷ (codes "wire", array (wholes (wire_of st from to))) ∷ []

-- the line of a link, where something was put on it, or it is closed
abbrev pub link_rows : State → ℕ → ℕ → List Row
link_rows st from to =
    if nat_lt 0 (length (items_on st.hub from to)) || not (is_open st.hub.entries from to) then link_row st from to ∷ [] else []

-- what is shown of a system: what stands, party by party, and then link by link; where none is open, the refusal C1
abbrev pub shown_rows : Open → List Row
shown_rows None = ((codes "refused", string (code_of NotOpen)) ∷ []) ∷ []
shown_rows (Some st) =
    let parties = range_with_len 0 (length st.hub.parties) in
    flat_map (party_rows st) parties ++ flat_map (λ from. flat_map (link_rows st from) parties) parties

-- the text of these lines: the canonical text of each, ended by a line feed
abbrev pub lines_text : List Row → List ℕ
lines_text rows = text_lines (map (λ row. compact_text (object_of row)) rows)

-- each line that shows something is an object whose keys ascend
abbrev pub RowsAreOrdered : Type 0
RowsAreOrdered = ((st : State) (party : ℕ) → IsOrdered (object_of (party_row st party)))
    × ((party : ℕ) (log : List LogEntry) (gtin : List ℕ) → IsOrdered (object_of (product_row party log gtin)))
    × ((party : ℕ) (key : BatchKey) → IsOrdered (object_of (recall_row party key)))
    × ((party : ℕ) (log : List LogEntry) (key : PackKey) (held : Held) → IsOrdered (object_of (pack_row party log key held)))
    × ((st : State) (from to : ℕ) → IsOrdered (object_of (link_row st from to)))
