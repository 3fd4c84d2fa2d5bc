-- The report of a run: a head line, a line for each party, and a line on closed links.
use Rattle.std.specs.Prelude.{ℕ, ◌-◌, Bool, true, false, List, [], ◌∷◌, ◌++◌, length, filter, flat_map, replicate, codes, decimal}
use Rattle.std.specs.List.{range_with_len}
use Rattle.mv_hub.specs.declared.entry.Entry.{Entry}
use Rattle.mv_hub.specs.declared.entry.Entry.TheVariants.{Routed, Closed}
use Rattle.mv_hub.specs.Record.{routed_count}
use Rattle.mv_repository.specs.Repository.{counts_of}
use Rattle.mv_machine.specs.State.{State, submissions_of, log_of}

-- the entry closes a link
abbrev pub is_closing : Entry → Bool
is_closing (Routed from k message) = false
is_closing (Closed from to) = true

-- a number on the right of ten places, blanks (32) before it; one that is wider is written whole
unfoldable pub in_ten_places : ℕ → List ℕ
in_ten_places number = replicate (10 - length (decimal number)) 32 ++ decimal number

-- the line of a party, ended by a line feed (10): its number, how many messages it submitted, how many of these were routed, and what its
-- repository has
unfoldable pub party_line : State → ℕ → List ℕ
party_line outcome party =
    let counts = counts_of (log_of outcome party) in
    flat_map in_ten_places (
    party ∷ length (submissions_of outcome party) ∷ routed_count outcome.hub.entries party ∷ counts.entries ∷ counts.products ∷ counts.packs
    ∷ counts.active ∷ counts.recalled ∷ []
    ) ++ 10 ∷ []

-- the head line
abbrev pub head_line : List ℕ
head_line = codes "     party submitted    routed   applied  products     packs    active  recalled\n"

-- the report: the head line, the line of each party, and a line on closed links
unfoldable pub report_text : State → List ℕ
report_text outcome =
    head_line ++ flat_map (party_line outcome) (range_with_len 0 (length outcome.hub.parties))
    ++ (codes "closed links: " ++ (decimal (length (filter is_closing outcome.hub.entries)) ++ 10 ∷ []))
