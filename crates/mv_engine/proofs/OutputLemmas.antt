-- Lemmas on the bytes that were written.
use Rattle.mv_engine.proofs.Words.{ℕ, ◌+◌, List, length, take, drop, sym, length-drop, ◌-◌, Option, Appends, Appends-trans, take-append-drop, WrotePart}
use Rattle.std.proofs.Math.Seq.{take-add, take-length}

-- the next bytes of a text were written behind its front
pub wrote_more : (a b c : Option (List ℕ)) (bytes : List ℕ) (i n : ℕ) → Appends a b (take i bytes) → Appends b c (take n (take (length bytes - i) (drop i bytes))) → Appends a c (take (i + n) bytes)
wrote_more a b c bytes i n p q = rw take-add (Appends-trans a b c _ _ p (rw (← length-drop i bytes, take-length) at q))

-- the front of a text is a part of it
pub front_is_part : (a b : Option (List ℕ)) (bytes : List ℕ) (i : ℕ) → Appends a b (take i bytes) → WrotePart bytes a b
front_is_part a b bytes i p = (take i bytes, drop i bytes, sym (take-append-drop i bytes), p)
