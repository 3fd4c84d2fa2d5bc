-- What the hub knows of a product: its last master, and the batches of it that were uploaded (Article 33).
use Rattle.std.specs.Prelude.{ℕ, List, [], Option, Some, None, if◌then◌else◌, bytes_eq}
use Rattle.mv_hub.specs.Words.{Entry, Product, Routed, Upload, filter_map, insert_all}
use Rattle.mv_hub.specs.declared.catalogue.Catalogue.{Catalogue}
use Rattle.mv_hub.specs.Record.{last_product}
use Rattle.mv_hub.specs.Listing.{Listing, is_same_listing}

-- what is known of a product: nothing where it has neither a master nor a batch
abbrev pub catalogue_with : Option Product → List Listing → Option Catalogue
catalogue_with None [] = None
catalogue_with product batches = Some (record { product = product; batches = batches })

-- the batch and its expiry that an entry lists under a product: those of a routed upload of it
abbrev pub listing_in : List ℕ → Entry → Option Listing
listing_in gtin (Routed from k (Upload named batch expiry national serials)) =
    if bytes_eq named gtin then Some (batch, expiry) else None
listing_in gtin entry = None

-- the distinct pairs of batch and expiry of all routed uploads of a product, in the order of their first routing
unfoldable pub batches_of : List Entry → List ℕ → List Listing
batches_of entries gtin = insert_all is_same_listing [] (filter_map (listing_in gtin) entries)

-- what the record says of a product: its last master's product and its batches, nothing where it has neither
abbrev pub catalogue_of : List Entry → List ℕ → Option Catalogue
catalogue_of entries gtin = catalogue_with (last_product entries gtin) (batches_of entries gtin)
