-- What the proofs of other crates cite of the parts of an object, of reading, of writing, and of the order of keys. No other file of this folder is cited
-- elsewhere.
pub use Rattle.mv_json.proofs.MetLemmas.{AreMet, all_met, begun_shorter, converted_some, known_only, none_met, one_more_met, stands, text_begins, whole_begins}
unfoldable pub use Rattle.mv_json.proofs.OrderLemmas.{rises}
pub use Rattle.mv_json.proofs.OrderLemmas.{strictly_sorted}
pub use Rattle.mv_json.proofs.ReadingLemmas.{all_are_texts, all_some, each_back, none_unknown, read_is_legal, reads_back}
pub use Rattle.mv_json.proofs.TokenLemmas.{named, nothing, printed, written_behind, ◌then◌}
pub use Rattle.mv_json.proofs.ValueLemmas.{keys_ascend, texts_ascend, utf8_fact, utf8_test}
