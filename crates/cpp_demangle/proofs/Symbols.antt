-- From what the readers of a name answer to what a symbol holds, and that equal symbols are the same.
use Rattle.std.specs.Prelude.{◌≡◌, ℕ, true, ◌&&◌, List, [], bytes_eq}
use Rattle.std.specs.Cmp.{first_so}
use Rattle.std.proofs.Common.{sym, subst, ap, ◌∙◌, refl}
use Rattle.std.proofs.lemmas.Slice.Eq.{bytes_eq-Decides}
use Rattle.demangle_core.specs.Core.{Core, same}
use Rattle.demangle_core.specs.Table.{Table, same_tables}
use Rattle.demangle_text.specs.Kind.{Kind, kind}
use Rattle.demangle_text.specs.Spot.{Spot}
use Rattle.demangle_text.specs.declared.error.Error.{Error}
use Rattle.demangle_text.specs.declared.error.Error.TheVariants.{OutOfMemory}
use Rattle.demangle_grammar.specs.Tree.{Tree, core}
use Rattle.demangle_grammar.specs.Reading.{Answer, Yes, No, Deep}
use Rattle.demangle_grammar.specs.Code.{Reply, Found, Refused, Here, here}
use Rattle.demangle_printing.specs.Outcome.{Options}
use Rattle.demangle_read.specs.Reading.{reading, whole_at, whole}
use Rattle.cpp_demangle.specs.Found.{IsMissing}
use Rattle.demangler.specs.Contents.{Contents, contents, same_contents, same_contents_equiv, telling_of}
use Rattle.demangler.specs.Name.{IsSymbol, IsRead, IsRefused, IsNotWhole}
use Rattle.demangler.proofs.Causes.{name_stops, error_stops}
use Rattle.demangler.proofs.Names.{is_name, is_sound, is_symbol}
use Rattle.demangler.proofs.Outcomes.{reading_stops}
use Rattle.demangler.proofs.Tellings.{same_telling}
use Rattle.demangler.proofs.Wholes.{unwhole}

-- ---- what is read
pub read_at_front : {limit : ℕ} {bytes : List ℕ} {x : Core} {p : Spot} {t : Table} →
    reading limit bytes ≡ Found x (here p t) → IsRead limit bytes p.left (contents bytes t x)
read_at_front {limit} {bytes} {x} {p} {t} e =
    record {
      bytes_are = refl;
      end = p.index;
      reads = e;
      name = is_name limit bytes x (here p t) e;
      sound = is_sound limit bytes x (here p t) e;
    }

pub symbol_at_front : (limit : ℕ) {bytes : List ℕ} {x : Core} {p : Spot} {t : Table} →
    reading limit bytes ≡ Found x (here p t) → ∥ IsSymbol (contents bytes t x) ∥₁
symbol_at_front limit {bytes} {x} {p} {t} e = ∣ is_symbol limit bytes x (here p t) e ∣₁

pub read_whole : {limit : ℕ} {bytes : List ℕ} {x : Core} {p : Spot} {t : Table} →
    whole (reading limit bytes) ≡ Found x (here p t) → IsRead limit bytes p.left (contents bytes t x)
read_whole {limit} {bytes} {x} {p} {t} e = read_at_front (unwhole (reading limit bytes) x (here p t) e).0

pub symbol_whole : (limit : ℕ) {bytes : List ℕ} {x : Core} {p : Spot} {t : Table} →
    whole (reading limit bytes) ≡ Found x (here p t) → ∥ IsSymbol (contents bytes t x) ∥₁
symbol_whole limit {bytes} {x} {p} {t} e = symbol_at_front limit (unwhole (reading limit bytes) x (here p t) e).0

-- ---- why there is no symbol
pub refused_front : (limit : ℕ) (bytes : List ℕ) (e : Error) → IsMissing (reading limit bytes) e →
    IsRefused (reading limit bytes) e
refused_front limit bytes OutOfMemory d = tt
refused_front limit bytes e d = (d, (error_stops e (name_stops _ _ bytes (kind e) d)).0)

pub refused_whole : (limit : ℕ) (bytes : List ℕ) (e : Error) → IsMissing (whole (reading limit bytes)) e →
    IsRefused (whole (reading limit bytes)) e
refused_whole limit bytes OutOfMemory d = tt
refused_whole limit bytes e d = (d, (error_stops e (reading_stops limit bytes (kind e) d)).0)

found_not_refused : {x : Core} {h : Here} {k : Kind} → Found x h ≡ Refused k → ⊥
found_not_refused e = cc

whole_of : {reply : Reply} (x : Core) (h : Here) → reply ≡ Found x h → h.spot.left ≡ [] → whole reply ≡ Found x h
whole_of x h e n = ap whole e ∙ ap (λ l. whole_at l x h) n

pub not_whole : (limit : ℕ) (bytes : List ℕ) (e : Error) → IsMissing (whole (reading limit bytes)) e →
    IsNotWhole (reading limit bytes) e
not_whole limit bytes OutOfMemory d = tt
not_whole limit bytes e d = λ x h f n. found_not_refused (sym (whole_of x h f n) ∙ d)

-- ---- equal symbols
abbrev tree_in : Tree → Answer Tree → Tree
tree_in d (Yes s t) = t
tree_in d (No h k) = d
tree_in d Deep = d

abbrev entries_in : Table → Answer Tree → Table
entries_in d (Yes s t) = s.entries
entries_in d (No h k) = d
entries_in d Deep = d

-- what is held of the same bytes
of_one_reading : {bytes : List ℕ} {x y : Core} {t u : Table} → IsSymbol (contents bytes t x) →
    IsSymbol (contents bytes u y) → contents bytes t x ≡ contents bytes u y
of_one_reading {bytes} {x} {y} {t} {u} a b =
    let e = sym a.name.reads ∙ b.name.reads in
    let trees : x ≡ y = sym a.name.is ∙ ap (λ z. core (tree_in a.name.name z)) e ∙ b.name.is in
    let tables : t ≡ u = ap (entries_in t) e in
    λ i. contents bytes (tables i) (trees i)

symbols_agree : (a b : Contents) → IsSymbol a → IsSymbol b → same_contents a b ≡ true → a ≡ b
symbols_agree a b p q e =
    let bytes : a.bytes ≡ b.bytes =
    (bytes_eq-Decides a.bytes b.bytes).0
    (first_so (bytes_eq a.bytes b.bytes) (same_tables a.table b.table && same a.tree b.tree) e) in
    ap (λ l. contents l a.table a.tree) bytes
    ∙ of_one_reading (subst (λ l. IsSymbol (contents l a.table a.tree)) bytes p) q

pub symbols_alike : (a b : Contents) → ∥ IsSymbol a ∥₁ → ∥ IsSymbol b ∥₁ → same_contents a b ≡ true → (o : Options) →
    telling_of o a ≡ telling_of o b
symbols_alike a b p q e o = same_telling p (λ x. same_telling q (λ y. ap (telling_of o) (symbols_agree a b x y e)))

-- ---- copies
pub copies_equal : (a b : Contents) → a ≡ b → same_contents a b ≡ true
copies_equal a b e = ap (λ c. same_contents c b) e ∙ same_contents_equiv.refl b
