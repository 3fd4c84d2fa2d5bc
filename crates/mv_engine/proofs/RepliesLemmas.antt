-- Lemmas on replies to lines that come in parts.
use Rattle.mv_engine.proofs.Words.{AreAnswered, AreReplies, GotNoReply, IsReplies, Line, List, Option, TookAtMostOne, [], ap, arith, filter_map-append, flat_map-append, inl, inr, length, line_at, line_limit, lines_limit, map, nat_tests, refl, said_texts, strip_last, text_lines, unless_empty, ℕ, ◌++◌, ◌+◌, ◌<◌, ◌∷◌, ◌≡◌, ◌≢◌, ◌≤◌, append_assoc, length-append, rules, common_steps, ServeFault, whole_from, rest_from, lines_from, IsUnended, StopsAt, StopsIn, StoppedAt, Memory, TooManyLines, Taken, sym, append-nil, take, subst, Result, OnOk, IfErr, Appends, Consumes, Appends-trans, Consumes-trans, Read, Write, Start, WrotePart, WroteAt, Served, EndedAt, AreWhole, IsAtEnd, Halted}
use Rattle.mv_engine.proofs.PartLemmas.{unended_nil, unended_whole, unended_rest, unended_front}

-- a line that isn't empty is the one of its piece
one_line : (number : ℕ) (line : List ℕ) → length line ≢ 0 → map (line_at number) (unless_empty line) ++ [] ≡ line_at number line ∷ []
one_line number = grind (arith, nat_tests)

module _ {S : Type 0} (Reply : S → Line → Option (List ℕ) → S → Type 0) where
  -- replies to some lines, and then to the next
  pub AreReplies-append : (a b c : S) (lines more : List Line) (texts others : List (Option (List ℕ))) → AreReplies Reply a lines texts b
      → AreReplies Reply b more others c → AreReplies Reply a (lines ++ more) (texts ++ others) c
  AreReplies-append a b c [] more [] others first next = rw first at next
  AreReplies-append a b c (line ∷ lines) more (text ∷ texts) others (between, reply, rest) next =
      (between, reply, AreReplies-append between b c lines more texts others rest next)
  AreReplies-append a b c lines more texts others first next = absurd first

  -- the bytes of the replies follow one another
  pub IsReplies-append : (a b c : S) (lines more : List Line) (out other : List ℕ) → IsReplies Reply a lines out b
      → IsReplies Reply b more other c → IsReplies Reply a (lines ++ more) (out ++ other) c
  IsReplies-append a b c lines more out other first next = grind (arith, AreReplies-append, flat_map-append, filter_map-append (λ (text : Option (List ℕ)). text))

  -- the reply to one line, or its want
  pub IsReplies-one : (a b : S) (line : Line) (text : Option (List ℕ)) → Reply a line text b
      → IsReplies Reply a (line ∷ []) (text_lines (said_texts (text ∷ []))) b
  IsReplies-one a b line text reply = (text ∷ [], refl, (b, reply, refl))

  -- a line that got no reply is at most one that was taken
  pub took_one : (count : ℕ) (piece line : List ℕ) (a b : S) → line ≡ strip_last 13 piece → length line ≢ 0 → GotNoReply Reply a (line_at (count + 1) line) b
      → TookAtMostOne Reply count a (piece ∷ []) b
  took_one count piece line a b stripped some got = grind (arith, one_line (count + 1) line)

  -- where more pieces follow, it is the first of them all the same
  pub took_later : (count : ℕ) (a b : S) (ps more : List (List ℕ)) → TookAtMostOne Reply count a ps b → TookAtMostOne Reply count a (ps ++ more) b
  took_later count a b ps more (inl same) = inl same
  took_later count a b ps more (inr (next, rest, first, line, is, text, reply)) = inr (next, rest ++ more, ap (λ l. l ++ more) first, line, is, text, reply)

  -- a piece that is a line adds the reply to it, or none
  pub reply_added : (count : ℕ) (kept items piece line : List ℕ) (text : Option (List ℕ)) (a b : S) → count < lines_limit → length piece ≤ line_limit
      → line ≡ strip_last 13 piece → length line ≢ 0 → Reply a (line_at (count + 1) line) text b → items ≡ kept ++ text_lines (said_texts (text ∷ []))
      → (out : List ℕ) × (items ≡ kept ++ out) × AreAnswered Reply count a (piece ∷ []) b out
  reply_added count kept items piece line text a b few short stripped some reply added = (_, added, grind (arith, nat_tests, IsReplies-one, one_line))

-- ---- Lemmas on an input that comes in parts

-- the whole pieces of two parts
pub whole_from-append : (begun xs ys : List ℕ) → whole_from begun (xs ++ ys) ≡ whole_from begun xs ++ whole_from (rest_from begun xs) ys
whole_from-append begun [] ys = refl
whole_from-append begun (x ∷ xs) ys = grind (arith, whole_from-append [] xs ys, whole_from-append (begun ++ x ∷ []) xs ys)

-- what two parts leave begun
pub rest_from-append : (begun xs ys : List ℕ) → rest_from begun (xs ++ ys) ≡ rest_from (rest_from begun xs) ys
rest_from-append begun [] ys = refl
rest_from-append begun (x ∷ xs) ys = grind (arith, rest_from-append [] xs ys, rest_from-append (begun ++ x ∷ []) xs ys)

-- the lines of two lists of pieces
pub lines_from-append : (count : ℕ) (ps qs : List (List ℕ)) → lines_from count (ps ++ qs) ≡ lines_from count ps ++ lines_from (count + length ps) qs
lines_from-append count [] qs = ap (λ n. lines_from n qs) (omega arith)
lines_from-append count (piece ∷ ps) qs = grind (arith, append_assoc, lines_from-append (count + 1) ps qs)

-- the place where a later part stops is one of the whole
pub stops_later : (fault : ServeFault) (begun : List ℕ) (count : ℕ) (front good bad : List ℕ)
    → StopsAt fault (rest_from begun front) (count + length (whole_from begun front)) good bad → StopsAt fault begun count (front ++ good) bad
stops_later fault begun count front good bad why = grind (arith, length-append, rest_from-append, whole_from-append)

-- and so it is where more follows
stops_longer : (fault : ServeFault) (begun : List ℕ) (count : ℕ) (good bad tail : List ℕ) → StopsAt fault begun count good bad
    → StopsAt fault begun count good (bad ++ tail)
stops_longer fault begun count good bad tail why = grind (arith, length-append)

module _ {S : Type 0} (Reply : S → Line → Option (List ℕ) → S → Type 0) where
  -- some pieces were answered, and then the next
  pub answered_more : {a b c : S} {count : ℕ} {ps qs : List (List ℕ)} {out other : List ℕ} → AreAnswered Reply count a ps b out
      → AreAnswered Reply (count + length ps) b qs c other → AreAnswered Reply count a (ps ++ qs) c (out ++ other)
  answered_more {a = a} {b = b} {c = c} {count = count} {ps = ps} {qs = qs} {out = out} {other = other} first next =
      grind (arith, nat_tests, common_steps, IsReplies-append Reply a b c _ _ out other first.replied next.replied, lines_from-append count ps qs)

  -- bytes that end no line are taken
  pub part_taken : (begun part begun' : List ℕ) (count count' : ℕ) (a : S) → IsUnended part → count ≤ lines_limit → begun' ≡ begun ++ part → count' ≡ count
      → Taken Reply begun count a part begun' count' a []
  part_taken begun part begun' count count' a unended few grown same = grind (arith, unended_rest, unended_whole)

  -- one part is taken, and then the next
  pub taken_more : {begun xs begun' ys begun'' out other : List ℕ} {count count' count'' : ℕ} {a b c : S}
      → Taken Reply begun count a xs begun' count' b out → Taken Reply begun' count' b ys begun'' count'' c other
      → Taken Reply begun count a (xs ++ ys) begun'' count'' c (out ++ other)
  taken_more first next = grind (arith, answered_more first.answered (rw first.counted at next.answered), length-append, rest_from-append, whole_from-append)

  -- where the taking of a later part stopped, it stopped in the whole
  pub stopped_later : {begun front begun' out other back all : List ℕ} {count count' : ℕ} {ps whole : List (List ℕ)} {a b c : S} (fault : ServeFault)
      → all ≡ front ++ back → whole ≡ whole_from begun front ++ ps → Taken Reply begun count a front begun' count' b out
      → StoppedAt Reply fault begun' count' b back ps c other → StoppedAt Reply fault begun count a all whole c (out ++ other)
  stopped_later {begun} {front} {count = count} fault cut parted first stopped =
      let answered = answered_more first.answered (rw (first.rest, first.counted) at stopped.answered) in
      let later = whole_from-append begun front stopped.good in
      search (rules, append_assoc, length-append, stops_later fault begun count front stopped.good stopped.bad)

  -- the taking stops behind bytes that end no line
  pub part_stopped : (fault : ServeFault) (begun good bad : List ℕ) (count : ℕ) (ps : List (List ℕ)) (a b : S) → IsUnended good → count ≤ lines_limit
      → StopsAt fault begun count good bad → TookAtMostOne Reply count a ps b → (fault ≢ Memory → b ≡ a)
      → StoppedAt Reply fault begun count a (good ++ bad) ps b []
  part_stopped fault begun good bad count ps a b unended few why left alone =
      let none = unended_whole begun good unended in
      let parted : ps ≡ whole_from begun good ++ ps = rw none in
      let answered : AreAnswered Reply count a (whole_from begun good) a [] = grind arith in
      let after : TookAtMostOne Reply (count + length (whole_from begun good)) a ps b = grind arith in
      search rules

  -- a line that ends in these bytes got no reply
  pub line_unanswered : (begun part tail : List ℕ) (count : ℕ) (a b : S) → IsUnended part → count ≤ lines_limit
      → TookAtMostOne Reply count a ((begun ++ part) ∷ []) b → StoppedAt Reply Memory begun count a (part ++ 10 ∷ tail) (whole_from begun (part ++ 10 ∷ tail)) b []
  line_unanswered begun part tail count a b unended few left = search (rules, part_stopped, took_later, whole_from-append, unended_whole, unended_rest)

  -- no line may follow
  pub none_may_follow : (begun part tail : List ℕ) (count : ℕ) (ps : List (List ℕ)) (a : S) → (0 < length part → count < lines_limit) → count ≡ lines_limit
      → StoppedAt Reply TooManyLines begun count a (part ++ 10 ∷ tail) ps a []
  none_may_follow begun [] tail count ps a behind full =
      part_stopped TooManyLines begun [] (10 ∷ tail) count ps a a unended_nil (omega arith) (search (rules, full)) (inl refl) (λ other. refl)
  none_may_follow begun (x ∷ part) tail count ps a behind full = absurd (omega (arith, behind (omega arith), full))

  -- the taking of bytes that end no line stops among them
  pub stopped_in : (fault : ServeFault) (begun part tail : List ℕ) (count : ℕ) (ps : List (List ℕ)) (a : S) → IsUnended part → count ≤ lines_limit
      → StopsIn fault begun count part → StoppedAt Reply fault begun count a (part ++ tail) ps a []
  stopped_in fault begun part tail count ps a unended few (good, bad, cut, why) =
      grind (arith, common_steps, append_assoc, part_stopped fault begun good (bad ++ tail) count ps a a, stops_longer, unended_front good bad)

  -- what stopped a later part of the bytes, stopped their taking
  pub stopped_more : {begun front begun' out back all other kept : List ℕ} {count count' : ℕ} {a b c : S} (fault : ServeFault) → all ≡ front ++ back
      → kept ≡ out ++ other → Taken Reply begun count a front begun' count' b out → StoppedAt Reply fault begun' count' b back (whole_from begun' back) c other
      → StoppedAt Reply fault begun count a all (whole_from begun all) c kept
  stopped_more fault cut grown first stopped = rw grown (stopped_later fault cut (grind (arith, whole_from-append)) first stopped)

-- ---- Lemmas on what a run over lines has written

-- nothing more was read
pub read_none : (a b c : Option (List ℕ)) (xs block : List ℕ) (n : ℕ) → Consumes a b xs → Consumes b c (take n block) → n ≡ 0 → Consumes a c xs
read_none a b c xs block n p q e = subst (λ l. Consumes a c l) (append-nil xs) (Consumes-trans a b c xs [] p (rw e at q))

module _ {S : Type 0} (Reply : S → Line → Option (List ℕ) → S → Type 0) where
  -- a read failed, and the bytes before it are taken
  pub unread_at : (before between : S) (bytes begun' out : List ℕ) (count' : ℕ) (rest old new : Option (List ℕ)) → Appends old new out
      → Taken Reply [] 0 before bytes begun' count' between out
      → count' ≤ lines_limit → (0 < length begun' → count' < lines_limit) → length begun' ≤ line_limit → EndedAt Reply Read before bytes rest between old new
  unread_at before between bytes begun' out count' rest old new written taken few behind short = grind (arith, nat_tests, common_steps)

  -- the write of the replies failed to the lines that `ps` are
  pub broken : {A : Type 0} (came : Result A ServeFault) (ready begun bytes : List ℕ) (ps : List (List ℕ)) (count : ℕ) (before after : S) (old new : Option (List ℕ))
      → OnOk came (AreAnswered Reply count before ps after ready) → IfErr came (λ fault. StoppedAt Reply fault begun count before bytes ps after ready)
      → WrotePart ready old new → WroteAt Reply count before ps after old new
  broken came ready begun bytes ps count before after old new answered stopped part = grind (arith, append-nil ps)

  -- the replies to a later part of the input broke off
  wrote_later : {before between after : S} {front begun' out : List ℕ} {count' : ℕ} {ps all : List (List ℕ)} (a b c : Option (List ℕ)) → Appends a b out
      → Taken Reply [] 0 before front begun' count' between out → all ≡ whole_from [] front ++ ps → WroteAt Reply count' between ps after b c
      → WroteAt Reply 0 before all after a c
  wrote_later {front = front} {out = out} a b c written taken are broken =
      let (went, unwritten, is, did) = broken.written in
      let answered = answered_more Reply taken.answered (rw taken.counted at broken.answered) in
      search (rules, append_assoc, length-append, Appends-trans a b c out went written did)

  -- the taking of a later part of the input ended, or the writing of the replies to what stands there, and so the run
  pub halted_later : {before between : S} {front begun' out : List ℕ} {count' : ℕ} (fault : ServeFault) (after : S) (back bytes : List ℕ) (ps all : List (List ℕ))
      (a b c rest : Option (List ℕ)) → Appends a b out → Taken Reply [] 0 before front begun' count' between out → bytes ≡ front ++ back
      → all ≡ whole_from [] front ++ ps → AreWhole rest bytes all → Halted Reply fault begun' count' between back ps after b c
      → EndedAt Reply fault before bytes rest after a c
  halted_later Read after back bytes ps all a b c rest written taken is are whole (other, went, stopped) = absurd stopped.why
  halted_later Start after back bytes ps all a b c rest written taken is are whole (other, went, stopped) = absurd stopped.why
  halted_later Write after back bytes ps all a b c rest written taken is are whole broken = (all, whole, wrote_later a b c written taken are broken)
  halted_later {out = out} fault after back bytes ps all a b c rest written taken is are whole (other, went, stopped) =
      (all, whole, (out ++ other, Appends-trans a b c out other written went, stopped_later Reply fault is are taken stopped))

  -- that of a block
  pub halted_block : {before between : S} {front begun' out : List ℕ} {count' : ℕ} (fault : ServeFault) (after : S) (back : List ℕ)
      (a b c rest : Option (List ℕ)) → Appends a b out → Taken Reply [] 0 before front begun' count' between out → Halted Reply fault begun' count' between back (whole_from begun' back) after b c
      → EndedAt Reply fault before (front ++ back) rest after a c
  halted_block {front = front} fault after back a b c rest written taken halted =
      halted_later fault after back _ _ _ a b c rest written taken refl (rw taken.rest (whole_from-append [] front back)) (inl refl) halted

  -- that of the last line
  pub halted_last : {before between : S} {bytes begun' out : List ℕ} {count' : ℕ} (fault : ServeFault) (after : S)
      (a b c rest : Option (List ℕ)) → Appends a b out → Taken Reply [] 0 before bytes begun' count' between out → IsAtEnd rest
      → Halted Reply fault begun' count' between [] (unless_empty begun') after b c → EndedAt Reply fault before bytes rest after a c
  halted_last {bytes = bytes} fault after a b c rest written taken at_end halted =
      halted_later fault after [] bytes _ _ a b c rest written taken (sym (append-nil bytes)) refl (inr (rw taken.rest refl, at_end)) halted

  -- the last line is answered, and so the input
  pub served_whole : {before between : S} {bytes begun' out other : List ℕ} {count' : ℕ} (after : S) (a b c : Option (List ℕ)) → Appends a b out
      → Taken Reply [] 0 before bytes begun' count' between out → Appends b c other → AreAnswered Reply count' between (unless_empty begun') after other
      → Served Reply before bytes after a c
  served_whole {out = out} {other = other} after a b c written taken more last =
      (out ++ other, Appends-trans a b c out other written more, answered_more Reply taken.answered (rw (taken.rest, taken.counted) at last))
