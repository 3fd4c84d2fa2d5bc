-- Why the calls of the ends are refused.
use Rattle.std.specs.Prelude.{◌≡◌, Option}
use Rattle.mv_ends.specs.Words.{Refusal, Memory, option_map_or}

-- A call is refused for the fault that is found, by the refusal that this is answered by; where none is found, for want of memory alone.
abbrev pub IsRefusedBy : {F : Type 0} → (F → Refusal) → Option F → Refusal → Type 0
IsRefusedBy answer fault refusal = refusal ≡ option_map_or answer fault Memory
