-- What the log of a repository names, and in which order.
use Rattle.std.specs.Prelude.{List, [], ◌∷◌, ◌++◌, map, Bool, true, false, bytes_eq}
use Rattle.mv_show.specs.Words.{Carried, Item, LogEntry, Master, Pack, Party, Product, Recall as ARecall, Subject, Upload, Withdraw, flat_map, is_same_batch, is_same_pack, pack_key}
use Rattle.indexmap.specs.IndexSet.{insert_all}
use Rattle.mv_show.specs.declared.subject.Kind.{Kind}
use Rattle.mv_show.specs.declared.subject.Kind.TheVariants as kinds
use Rattle.mv_show.specs.declared.subject.Subject.TheVariants.{Recall}

-- two subjects are one
abbrev pub is_same_subject : Subject → Subject → Bool
is_same_subject Party Party = true
is_same_subject (Product first) (Product second) = bytes_eq first second
is_same_subject (Recall first) (Recall second) = is_same_batch first second
is_same_subject (Pack first) (Pack second) = is_same_pack first second
is_same_subject _ _ = false

-- what an item names by its message: a product by a master or a withdrawal, a batch by a recall, and packs by an upload, in the order of
-- its list
abbrev pub named_in : Kind → Item → List Subject
named_in kinds.Products (Carried k stamp (Master gtin product)) = Product gtin ∷ []
named_in kinds.Products (Carried k stamp (Withdraw gtin at)) = Product gtin ∷ []
named_in kinds.Recalls (Carried k stamp (ARecall key at)) = Recall key ∷ []
named_in kinds.Packs (Carried k stamp (Upload gtin batch expiry national serials)) = map (λ serial. Pack (pack_key gtin serial)) serials
named_in kind item = []

-- all that the entries of a log name, in the order of the log
abbrev pub named_of : Kind → List LogEntry → List Subject
named_of kind log = flat_map (λ entry. named_in kind entry.item) log

-- What the lines of a party tell of: the party itself, then the products, the recalled batches and the packs that its log names, each
-- in the order of their first naming, and once.
abbrev pub subjects_of : List LogEntry → List Subject
subjects_of log =
    insert_all is_same_subject [] (Party ∷ named_of kinds.Products log ++ named_of kinds.Recalls log ++ named_of kinds.Packs log)
