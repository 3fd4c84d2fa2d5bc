-- Lists of ends that are opened together.
use Rattle.mv_ends.proofs.Words.{◌≡◌, ◌∙◌, ◌<◌, ◌+◌, ℕ, List, [], ◌∷◌, ◌++◌, length, sym, arith, IsSquare, common_steps, nat_tests, Bounds, Global, Vec, sent, received, IsPair, producer_capacity, consumer_capacity, Message, Frame, Inflow, new_hub, new_site, opening, HubEnd, RepoEnd, Inlet, Outlet, AreEmpty, ap, map, get_or, ring_put, ring_taken, taken_by, each_row, inflow_of, table_of, repo_seat, IsSeatOf, AreEnds, AreOpened, AreLinks, opened_seat, state_of, map-append, length-map, Ring, RepoSeat}
use Rattle.std.proofs.Math.ListN.{get_or-append}
use Rattle.std.proofs.lemmas.List.FromFn.{map-range_with_len_more}

-- nothing was taken of a ring that nothing left
none_taken : {T : Type 0} (end : Inlet T) → received end.ring ≡ [] → taken_by end ≡ []
none_taken end none = grind (arith, common_steps)

-- the two ends of a ring show one ring
one_ring : {T : Type 0} (outlet : Outlet T) (inlet : Inlet T) (room : ℕ) → IsPair outlet inlet.ring → producer_capacity outlet ≡ room
    → consumer_capacity inlet.ring ≡ room → ring_put outlet ≡ ring_taken inlet
one_ring outlet inlet room pair size other = grind (arith, pair, size, other)

-- lists of which none has anything, with one more
empty_more : {A : Type 0} (lists : List (List A)) → AreEmpty lists → AreEmpty (lists ++ [] ∷ [])
empty_more lists empty from = grind (arith, nat_tests, common_steps, get_or-append, empty from)

-- what holds of each of a list and of one more
all_with : {A : Type 0} (P : ℕ → A → Type 0) (xs : List A) (x : A) (count : ℕ) → length xs ≡ count
    → ((place : ℕ) (absent : A) → place < count → P place (get_or xs place absent)) → P count x
    → (place : ℕ) (absent : A) → place < count + 1 → P place (get_or (xs ++ x ∷ []) place absent)
all_with P xs x count long each one place absent below = grind (arith, nat_tests, common_steps, get_or-append, each place absent)

-- the links of one more sender, by what the ends show
links_with : (made room : ℕ) (row : List (Outlet Frame)) (old new : Inflow Frame) (outlet : Outlet Frame) (ring : Ring) → AreLinks made room row old
    → new.rings ≡ old.rings ++ ring ∷ [] → new.taken ≡ old.taken ++ [] ∷ [] → ring_put outlet ≡ ring → ring.size ≡ room → sent outlet ≡ []
    → AreLinks (made + 1) room (row ++ outlet ∷ []) new
links_with made room row old new outlet ring was rings taken same size unused = grind (arith, nat_tests, common_steps, empty_more)

pub links_more : (made room : ℕ) (row : List (Outlet Frame)) (ends : List (Inlet Frame)) (outlet : Outlet Frame) (inlet : Inlet Frame)
    → AreLinks made room row (inflow_of ends) → IsPair outlet inlet.ring → producer_capacity outlet ≡ room → consumer_capacity inlet.ring ≡ room
    → sent outlet ≡ [] → received inlet.ring ≡ [] → AreLinks (made + 1) room (row ++ outlet ∷ []) (inflow_of (ends ++ inlet ∷ []))
links_more made room row ends outlet inlet was pair size other unused untaken =
    links_with made room row (inflow_of ends) (inflow_of (ends ++ inlet ∷ [])) outlet (ring_taken inlet) was (map-append ring_taken ends (inlet ∷ []))
    (map-append taken_by ends (inlet ∷ []) ∙ ap (λ l. map taken_by ends ++ l ∷ []) (none_taken inlet untaken)) (one_ring outlet inlet room pair size other) other unused

module _ (parties : List (List (List ℕ))) (limits : Bounds) (uplinks : List (Inlet Message)) (rows : List (Vec (Outlet Frame) Global))
    (uplink : Inlet Message) (row : Vec (Outlet Frame) Global) where
  -- the end of the next party has its place
  seat_with : (outlet : Outlet Message) (inlets : Inflow Frame) (repo : RepoEnd) (party : ℕ) → party ≡ length uplinks → party ≡ length rows
      → repo.site ≡ new_site party (length parties) limits.submissions → repo.uplink ≡ outlet → repo.inlets ≡ inlets
      → IsPair outlet uplink.ring → producer_capacity outlet ≡ limits.uplink → consumer_capacity uplink.ring ≡ limits.uplink
      → AreLinks (length parties) limits.wire row.items inlets
      → IsSeatOf (opened_seat parties limits (uplinks ++ uplink ∷ []) (rows ++ row ∷ [])) party (repo_seat repo)
  seat_with outlet inlets repo party one each site at_uplink at_links pair size other links =
      grind (arith, nat_tests, common_steps, map-append, length-map, one_ring)

  -- the others keep theirs
  seat_beside : (party : ℕ) (repo : RepoSeat) → party < length uplinks → party < length rows
      → IsSeatOf (opened_seat parties limits uplinks rows) party repo
      → IsSeatOf (opened_seat parties limits (uplinks ++ uplink ∷ []) (rows ++ row ∷ [])) party repo
  seat_beside party repo below other seat = grind (arith, nat_tests, common_steps, get_or-append, map-append, length-map)

module _ (parties : List (List (List ℕ))) (limits : Bounds) (opened : ℕ) (uplinks : List (Inlet Message)) (rows : List (Vec (Outlet Frame) Global))
    (repos : List RepoEnd) (was : AreOpened parties limits opened uplinks rows repos) where
  -- the ends that are opened, with those of the next party
  pub opened_more : (repo : RepoEnd) (outlet : Outlet Message) (uplink : Inlet Message) (row : Vec (Outlet Frame) Global) (inlets : Inflow Frame)
      → repo.site ≡ new_site opened (length parties) limits.submissions → repo.uplink ≡ outlet → repo.inlets ≡ inlets
      → IsPair outlet uplink.ring → producer_capacity outlet ≡ limits.uplink → consumer_capacity uplink.ring ≡ limits.uplink
      → received uplink.ring ≡ [] → AreLinks (length parties) limits.wire row.items inlets
      → AreOpened parties limits (opened + 1) (uplinks ++ uplink ∷ []) (rows ++ row ∷ []) (repos ++ repo ∷ [])
  opened_more repo outlet uplink row inlets site at_uplink at_links pair size other untaken links = record {
    uplinks_each = grind (arith, common_steps);
    rows_each = grind (arith, common_steps);
    repos_each = grind (arith, common_steps);
    untaken = grind (arith, nat_tests, common_steps, map-append, none_taken, empty_more);
    unused = grind (arith, nat_tests, common_steps, map-append);
    wide = grind (arith, nat_tests, common_steps, map-append, length-map);
    sites = map-append (λ (repo : RepoEnd). repo.site) repos (repo ∷ []) ∙ (λ i. was.sites i ++ site i ∷ [])
        ∙ sym (map-range_with_len_more (λ party. new_site party (length parties) limits.submissions) 0 opened opened (omega arith));
    seats = all_with (λ party repo. IsSeatOf (opened_seat parties limits (uplinks ++ uplink ∷ []) (rows ++ row ∷ [])) party (repo_seat repo))
        repos repo opened was.repos_each
        (λ party absent below.
        seat_beside parties limits uplinks rows uplink row party (repo_seat (get_or repos party absent))
        (omega (arith, below, was.uplinks_each)) (omega (arith, below, was.rows_each)) (was.seats party absent below))
        (seat_with parties limits uplinks rows uplink row outlet inlets repo opened (sym was.uplinks_each) (sym was.rows_each)
        site at_uplink at_links pair size other links);
  }

  -- once all are opened, there is a link for each pair of them
  pub square_of : opened ≡ length parties → IsSquare (length parties) (each_row sent rows)
  square_of all = grind (arith, nat_tests, common_steps, length-map)

  -- and the ends are those of one opening
  pub ends_of : opened ≡ length parties → (hub : HubEnd) → hub.hub ≡ new_hub parties limits.window → hub.limits ≡ limits → hub.uplinks ≡ inflow_of uplinks → hub.wires ≡ table_of rows
      → AreEnds hub repos
  ends_of all hub is bounds at_uplinks at_wires = grind (arith, nat_tests, common_steps)

  -- and together the state where the system opens
  pub fresh_of : opened ≡ length parties → (hub : HubEnd) → hub.hub ≡ new_hub parties limits.window → hub.limits ≡ limits → state_of hub repos ≡ opening parties limits
  fresh_of all hub is bounds = grind (arith, nat_tests, common_steps)
