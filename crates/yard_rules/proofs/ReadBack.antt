-- A printed reply reads back as its numbers: a whole reply, cut at its line feeds and spaces, is the numbers of its first line and of each entry. No
-- printed number has a line feed or a space in it, so the cuts are where the reply put them.
use Prim.Native.Nat.{ℕ, ◌^◌, ◌<◌}
use mathlib.Core.Path.{◌≡◌, refl, ap, ap₂, sym, ◌∙◌}
use mathlib.Core.List.{List, [], ◌∷◌, ◌++◌, map, append_assoc, append-nil}
use native.Mathlib.Omega.{arith}
use lib.ListN.{take, drop, get_or}
use Rattle.lists.specs.Lists.{All}
use Rattle.lists.proofs.Lists.{all_append}
use Rattle.search_rules.specs.Range.{Entry}
use Rattle.table_rules.specs.declared.Searched.{Searched}
use Rattle.text_rules.specs.Text.{line_feed, space, parted, numeral, digits, decimal}
use Rattle.yard_rules.specs.Reply.{spaced, reply_line, reply_numbers, entry_text, entries_text, search_text}
use Rattle.yard_rules.specs.Conversation.{last_kept}
use Rattle.text_rules.proofs.Numerals.{digits_back, decimal_back}
use Rattle.text_rules.proofs.Parts.{Free, parted_one, parted_first, digits_free}
use Rattle.yard_rules.proofs.Parts.{decimal_free, reply_back}

-- the numbers of a line of an entry, and of a whole reply: its first line has a letter before them
unfoldable pub fields_of : List ℕ → List ℕ
fields_of line = map (numeral 10) (parted space line)

unfoldable pub read_lines : List (List ℕ) → List (List ℕ)
read_lines [] = []
read_lines (first ∷ lines) = map (numeral 10) (drop 1 (parted space first)) ∷ map fields_of (last_kept lines)

unfoldable pub read_back : List ℕ → List (List ℕ)
read_back text = read_lines (parted line_feed text)

spaced_free : (ns : List ℕ) → Free line_feed (spaced ns)
unfolding spaced
spaced_free [] = tt
spaced_free (n ∷ ns) =
    ((λ e. omega arith), all_append (λ b. b ≡ line_feed → ⊥) (decimal n) (spaced ns) (decimal_free line_feed n (omega arith)) (spaced_free ns))

entry_line : Entry → List ℕ
entry_line e = digits 15 (get_or e 0 0) ++ space ∷ decimal (get_or e 1 0)

entry_free : (e : Entry) → Free line_feed (entry_line e)
unfolding entry_line
entry_free e =
    all_append (λ b. b ≡ line_feed → ⊥) (digits 15 (get_or e 0 0)) (space ∷ decimal (get_or e 1 0)) (digits_free line_feed 15 (get_or e 0 0) (omega arith))
    ((λ e. omega arith), decimal_free line_feed (get_or e 1 0) (omega arith))

entry_back : (e : Entry) → get_or e 0 0 < 10 ^ 15 → fields_of (entry_line e) ≡ get_or e 0 0 ∷ get_or e 1 0 ∷ []
unfolding fields_of entry_line
entry_back e h =
    ap (map (numeral 10))
    (parted_first space (digits 15 (get_or e 0 0)) (decimal (get_or e 1 0)) (digits_free space 15 (get_or e 0 0) (omega arith))
    ∙ ap (λ (ps : List (List ℕ)). digits 15 (get_or e 0 0) ∷ ps) (parted_one space (decimal (get_or e 1 0)) (decimal_free space (get_or e 1 0) (omega arith))))
    ∙ ap₂ (λ (a b : ℕ). a ∷ b ∷ []) (digits_back 15 (get_or e 0 0) h) (decimal_back (get_or e 1 0))

-- the lines of the entries
line_first : (e : Entry) (rest : List ℕ) → entry_text e ++ rest ≡ entry_line e ++ line_feed ∷ rest
unfolding entry_text entry_line
line_first e rest = simp append_assoc

entries_lines : (es : List Entry) → parted line_feed (entries_text es) ≡ map entry_line es ++ ([] ∷ [])
unfolding entries_text parted
entries_lines [] = refl
entries_lines (e ∷ es) =
    ap (parted line_feed) (line_first e (entries_text es))
    ∙ parted_first line_feed (entry_line e) (entries_text es) (entry_free e)
    ∙ ap (λ (ls : List (List ℕ)). entry_line e ∷ ls) (entries_lines es)

all_kept : (ls : List (List ℕ)) → last_kept (ls ++ ([] ∷ [])) ≡ ls
unfolding last_kept
all_kept [] = refl
all_kept (l ∷ []) = refl
all_kept (l ∷ k ∷ ls) = ap (λ (xs : List (List ℕ)). l ∷ xs) (all_kept (k ∷ ls))

entries_back : (es : List Entry) → All (λ e. get_or e 0 0 < 10 ^ 15) es → map fields_of (map entry_line es) ≡ map (λ e. get_or e 0 0 ∷ get_or e 1 0 ∷ []) es
entries_back [] h = refl
entries_back (e ∷ es) h = ap₂ ◌∷◌ (entry_back e h.0) (entries_back es h.1)

module _ (letter : ℕ) (no-space : letter ≡ space → ⊥) (no_feed : letter ≡ line_feed → ⊥) where
  first_back : (ns rest : List ℕ) → read_back (reply_line letter ns ++ rest) ≡ ns ∷ map fields_of (last_kept (parted line_feed rest))
  unfolding read_back read_lines fields_of reply_line
  first_back ns rest =
      ap (λ t. read_lines (parted line_feed t)) (append_assoc (letter ∷ spaced ns) (line_feed ∷ []) rest)
      ∙ ap read_lines (parted_first line_feed (letter ∷ spaced ns) rest (no_feed, spaced_free ns))
      ∙ ap (λ (ms : List ℕ). ms ∷ map fields_of (last_kept (parted line_feed rest))) (reply_back letter ns no-space)

  -- a reply of one line
  pub line_back : (ns : List ℕ) → read_back (reply_line letter ns) ≡ ns ∷ []
  unfolding parted last_kept
  line_back ns = ap read_back (sym (append-nil (reply_line letter ns))) ∙ first_back ns []

  -- a search's reply, with its entries; a tag of 15 digits
  pub search_back : (s : Searched) (area : List Entry) → All (λ e. get_or e 0 0 < 10 ^ 15) (take s.found area)
      → read_back (search_text letter s area)
      ≡ reply_numbers s.refusal (s.found ∷ s.distances ∷ []) ∷ map (λ e. get_or e 0 0 ∷ get_or e 1 0 ∷ []) (take s.found area)
  unfolding search_text
  search_back s area h =
      let ns : List ℕ = reply_numbers s.refusal (s.found ∷ s.distances ∷ []) in
      let es : List Entry = take s.found area in
      first_back ns (entries_text es)
      ∙ ap (λ (ls : List (List ℕ)). ns ∷ map fields_of (last_kept ls)) (entries_lines es)
      ∙ ap (λ (ls : List (List ℕ)). ns ∷ map fields_of ls) (all_kept (map entry_line es))
      ∙ ap (λ (xs : List (List ℕ)). ns ∷ xs) (entries_back es h)
