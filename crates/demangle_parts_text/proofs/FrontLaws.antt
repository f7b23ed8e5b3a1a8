-- Laws on what is found at a front.
use Rattle.std.proofs.Common.{◌≡◌, ℕ, zero, suc, ◌+◌, ◌≤◌, ◌<◌, Bool, true, false, List, [], ◌∷◌, ◌++◌, length}
use Rattle.std.proofs.Common.{take, drop, get_or, refl, sym, ap, ◌∙◌, arith, Some, None, append_assoc, take-append-drop}
use Rattle.std.proofs.lemmas.Grind.{common_steps}
use Rattle.std.proofs.Math.Seq.{take-suc}
use Rattle.std.specs.Prelude.{◌==◌, ◌&&◌, Option, is_some}
use Rattle.demangle_printing.specs.State.{Kind}
use Rattle.demangle_context.specs.Kinds.{kind_of}
use Rattle.demangle_parts_text.specs.Fronts.{IsWithin, NodeIs, TextAt, ends_node, here}
use Rattle.demangle_parts_text.specs.Heard.{sizes}
use Rattle.demangle_parts_text.specs.Items.{Items, byte_before, node, none, text}
use Rattle.demangle_parts_text.specs.MarkOf.{begins_kind, is_piece, mark_ends}
use Rattle.demangle_parts_text.specs.Marks.{IsBehind, all_end, are_pieces, begin_chars, begins_char}
use Rattle.demangle_parts_text.specs.Marks.{begins_with_piece, ended, is_end}
use Rattle.demangle_parts_text.specs.Marks.{items_of, one_less, open_marks}
use Rattle.demangle_parts_text.specs.Walk.{is_none, kind_code, node_first, not_text, when, with_text}
use Rattle.demangle_parts_text.specs.declared.front.Front.{Front}
use Rattle.demangle_parts_text.specs.declared.mark.Mark.{Mark}
use Rattle.demangle_parts_text.specs.declared.mark.Mark.TheVariants as mark
use Rattle.demangle_parts_text.proofs.HeardLaws.{sizes-append}
use Rattle.demangle_parts_text.proofs.ItemLaws.{bytes_before}
use Rattle.demangle_parts_text.proofs.MarkLaws.{chars-behind, end-behind, here-begins, here-end, here-node, here-none}
use Rattle.demangle_parts_text.proofs.MarkLaws.{begins-end, bytes-text-before, here-piece, here-text, lift-one}
use Rattle.demangle_parts_text.proofs.MarkLaws.{no-text-front}
use Rattle.demangle_parts_text.proofs.MarkLaws.{open-append, pieces-close, size-more, sizes-behind, text-run}

-- ---- the first mark
pub begins-no-piece : (k : Kind) (m : Mark) → begins_kind k m ≡ true → is_piece m ≡ false
begins-no-piece k (mark.Piece n) e = absurd cc
begins-no-piece k (mark.Begins j) e = refl
begins-no-piece k mark.Ends e = refl

pub ends-no-piece : (m : Mark) → mark_ends m ≡ true → is_piece m ≡ false
ends-no-piece (mark.Piece n) e = absurd cc
ends-no-piece (mark.Begins j) e = refl
ends-no-piece mark.Ends e = refl

pub sizes-step : (t : List ℕ) (all : List Mark) (m : Mark) (ms : List Mark) → all ≡ m ∷ ms → is_piece m ≡ false
    → sizes all ≡ length t → sizes ms ≡ length t
unfolding sizes
sizes-step t all (mark.Piece n) ms a p e = absurd cc
sizes-step t all (mark.Begins j) ms a p e = sym (ap sizes a) ∙ e
sizes-step t all mark.Ends ms a p e = sym (ap sizes a) ∙ e

pub end-step : (all : List Mark) (m : Mark) (ms : List Mark) → all ≡ m ∷ ms → all_end all ≡ true → all_end ms ≡ true
end-step all m ms a e = end-behind (m ∷ []) ms (sym (ap all_end a) ∙ e)

pub chars-step : (t : List ℕ) (all : List Mark) (m : Mark) (ms : List Mark) → all ≡ m ∷ ms → is_piece m ≡ false
    → begin_chars false t all ≡ true → begin_chars false t ms ≡ true
unfolding begin_chars
chars-step t all (mark.Piece n) ms a p e = absurd cc
chars-step t all (mark.Begins j) ms a p e = sym (ap (begin_chars false t) a) ∙ e
chars-step t all mark.Ends ms a p e = sym (ap (begin_chars false t) a) ∙ e

-- ---- a text at the front
node-of-byte : (k : Kind) (b : ℕ) (i : Items) → node_first k (byte_before b i) ≡ None
node-of-byte k b none = refl
node-of-byte k b (text bs m) = refl
node-of-byte k b (node j w m) = refl

node-of-bytes : (k : Kind) (bs : List ℕ) (i : Items) → begins_char false bs ≡ true
    → node_first k (bytes_before bs i) ≡ None
node-of-bytes k [] i e = absurd cc
node-of-bytes k (b ∷ bs) i e = node-of-byte k b (bytes_before bs i)

some-byte : (b : ℕ) (i : Items) → is_none (byte_before b i) ≡ false
some-byte b none = refl
some-byte b (text bs m) = refl
some-byte b (node j w m) = refl

some-bytes : (bs : List ℕ) (i : Items) → begins_char false bs ≡ true → is_none (bytes_before bs i) ≡ false
some-bytes [] i e = absurd cc
some-bytes (b ∷ bs) i e = some-byte b (bytes_before bs i)

piece-begins : (t : List ℕ) (n : ℕ) (ms : List Mark) → begin_chars false t (mark.Piece n ∷ ms) ≡ true
    → begins_char false (take n t) ≡ true
unfolding begin_chars
piece-begins t n ms e = both (begins_char false (take n t)) _ e
  where
    both : (a b : Bool) → (a && b) ≡ true → a ≡ true
    both true b e = refl
    both false b e = e

-- ---- a node at the front
when-true : {A : Type 0} (b : Bool) (o : Option A) → b ≡ true → when b o ≡ o
when-true true o e = refl
when-true false o e = absurd cc

when-false : {A : Type 0} (b : Bool) (o : Option A) → b ≡ false → when b o ≡ None
when-false true o e = absurd cc
when-false false o e = refl

pub no-node-at-end : (k : Kind) (t : List ℕ) (all : List Mark) → length all ≡ 0 → node_first k (items_of t all) ≡ None
no-node-at-end k t [] e = ap (node_first k) (here-none t)
no-node-at-end k t (m ∷ ms) e = absurd (omega arith)

pub no-node : (k : Kind) (t : List ℕ) (all : List Mark) (m : Mark) (ms : List Mark) → all ≡ m ∷ ms
    → begins_kind k m ≡ false → all_end all ≡ true → begin_chars false t all ≡ true
    → node_first k (items_of t all) ≡ None
no-node k t all (mark.Piece n) ms a b e c =
    ap (λ l. node_first k (items_of t l)) a ∙ ap (node_first k) (here-piece t n ms)
    ∙ node-of-bytes k (take n t) _ (piece-begins t n ms (sym (ap (begin_chars false t) a) ∙ c))
no-node k t all (mark.Begins j) ms a b e c =
    let h = here-begins t j ms (sym (ap all_end a) ∙ e) in
    ap (λ l. node_first k (items_of t l)) a ∙ ap (node_first k) h.1
    ∙ when-false (kind_code (kind_of j) == kind_code k) (Some (items_of t ms, h.0)) b
no-node k t all mark.Ends ms a b e c =
    ap (λ l. node_first k (items_of t l)) a ∙ ap (node_first k) (here-end t ms)

pub enters : (k : Kind) (t : List ℕ) (all : List Mark) (m : Mark) (ms : List Mark) → all ≡ m ∷ ms
    → begins_kind k m ≡ true → all_end all ≡ true
    → (others : Items) × (node_first k (items_of t all) ≡ Some (items_of t ms, others))
enters k t all (mark.Piece n) ms a b e = absurd cc
enters k t all (mark.Begins j) ms a b e =
    let h = here-begins t j ms (sym (ap all_end a) ∙ e) in (
      h.0,
      ap (λ l. node_first k (items_of t l)) a ∙ ap (node_first k) h.1
          ∙ when-true (kind_code (kind_of j) == kind_code k) (Some (items_of t ms, h.0)) b,
    )
enters k t all mark.Ends ms a b e = absurd cc

pub node-at : (k : Kind) (t : List ℕ) (m : Mark) (w ms : List Mark) → begins_kind k m ≡ true
    → open_marks w (Some zero) ≡ Some zero
    → node_first k (items_of t (m ∷ (w ++ mark.Ends ∷ ms)))
    ≡ Some (items_of t (w ++ mark.Ends ∷ ms), items_of (drop (sizes w) t) ms)
node-at k t (mark.Piece n) w ms b c = absurd cc
node-at k t (mark.Begins j) w ms b c =
    ap (node_first k) (here-node t j w ms c)
    ∙ when-true (kind_code (kind_of j) == kind_code k)
    (Some (items_of t (w ++ mark.Ends ∷ ms), items_of (drop (sizes w) t) ms)) b
node-at k t mark.Ends w ms b c = absurd cc

pub end-none : (t : List ℕ) (ms : List Mark) → all_end ms ≡ true → begin_chars false t ms ≡ true
    → is_end ms ≡ is_none (items_of t ms)
end-none t [] e c = sym (ap is_none (here-none t))
end-none t (mark.Piece n ∷ ms) e c =
    sym (ap is_none (here-piece t n ms) ∙ some-bytes (take n t) _ (piece-begins t n ms c))
end-none t (mark.Begins j ∷ ms) e c = sym (ap is_none (here-begins t j ms e).1)
end-none t (mark.Ends ∷ ms) e c = sym (ap is_none (here-end t ms))

-- ---- what is behind
pub behind-all : (t : List ℕ) (ms : List Mark) → IsBehind t ms 0 t ms
unfolding open_marks sizes
behind-all t ms = record { within = []; is = refl; closed = refl; size = refl; text_is = refl }

open-both : (w v : List Mark) → open_marks w (Some zero) ≡ Some zero → open_marks v (Some zero) ≡ Some zero
    → open_marks (w ++ v) (Some zero) ≡ Some zero
open-both w v e f = open-append w v (Some zero) ∙ ap (open_marks v) e ∙ f

pub behind-both : (t : List ℕ) (ms : List Mark) (n : ℕ) (u : List ℕ) (ns : List Mark) (m : ℕ) (v : List ℕ)
    (os : List Mark) → IsBehind t ms n u ns → IsBehind u ns m v os → IsBehind t ms (n + m) v os
behind-both t ms n u ns m v os a b = record {
  within = a.within ++ b.within;
  is = a.is ∙ ap (λ l. a.within ++ l) b.is ∙ sym (append_assoc a.within b.within os);
  closed = open-both a.within b.within a.closed b.closed;
  size = (let e = a.size in let f = b.size in let g = sizes-append a.within b.within in omega arith);
  text_is =
      (let further : drop m (drop n t) ≡ drop (n + m) t = grind (arith, common_steps) in
      b.text_is ∙ ap (drop m) a.text_is ∙ further);
}

-- behind a node
wrapped : (m : Mark) (w : List Mark) (k : Kind) → begins_kind k m ≡ true → open_marks w (Some zero) ≡ Some zero
    → open_marks (m ∷ (w ++ mark.Ends ∷ [])) (Some zero) ≡ Some zero
unfolding open_marks
wrapped (mark.Piece n) w k b c = absurd cc
wrapped (mark.Begins j) w k b c =
    open-append w (mark.Ends ∷ []) (Some 1) ∙ ap (open_marks (mark.Ends ∷ [])) (lift-one w c)
wrapped mark.Ends w k b c = absurd cc

wrapped-size : (m : Mark) (w : List Mark) → is_piece m ≡ false → sizes (m ∷ (w ++ mark.Ends ∷ [])) ≡ sizes w
unfolding sizes
wrapped-size (mark.Piece n) w p = absurd cc
wrapped-size (mark.Begins j) w p = let g = sizes-append w (mark.Ends ∷ []) in omega arith
wrapped-size mark.Ends w p = let g = sizes-append w (mark.Ends ∷ []) in omega arith

pub behind-node : (k : Kind) (t : List ℕ) (ms : List Mark) (m : Mark) (w ns : List Mark) (n : ℕ) (u : List ℕ)
    → begins_kind k m ≡ true → ms ≡ m ∷ (w ++ mark.Ends ∷ ns) → open_marks w (Some zero) ≡ Some zero → sizes w ≡ n
    → u ≡ drop n t → IsBehind t ms n u ns
behind-node k t ms m w ns n u b e c s d = record {
  within = m ∷ (w ++ mark.Ends ∷ []);
  is = e ∙ ap (λ l. m ∷ l) (sym (append_assoc w (mark.Ends ∷ []) ns));
  closed = wrapped m w k b c;
  size = wrapped-size m w (begins-no-piece k m b) ∙ s;
  text_is = d;
}

pub no-mark : (ms : List Mark) → length ms ≡ 0 → is_end ms ≡ true
no-mark [] e = refl
no-mark (m ∷ ms) e = absurd (omega arith)

-- ---- what is left behind the first marks
pub taken-fits : (t : List ℕ) (ms : List Mark) (n b : ℕ) → sizes ms ≡ length t → sizes (take n ms) ≡ b → b ≤ length t
taken-fits t ms n b w e =
    let both : sizes (take n ms) + sizes (drop n ms) ≡ sizes ms =
    sym (sizes-append (take n ms) (drop n ms)) ∙ ap sizes (take-append-drop n ms) in
    omega arith

pub rest-sizes : (t : List ℕ) (ms : List Mark) (n b : ℕ) (u : List ℕ) (ns : List Mark) → sizes ms ≡ length t
    → sizes (take n ms) ≡ b → u ≡ drop b t → ns ≡ drop n ms → sizes ns ≡ length u
rest-sizes t ms n b u ns w e f g =
    ap sizes g ∙ sizes-behind t (take n ms) (drop n ms) (ap sizes (take-append-drop n ms) ∙ w)
    ∙ ap (λ i. length (drop i t)) e ∙ ap length (sym f)

pub rest-end : (ms : List Mark) (n : ℕ) (ns : List Mark) → all_end ms ≡ true → ns ≡ drop n ms → all_end ns ≡ true
rest-end ms n ns e g =
    ap all_end g ∙ end-behind (take n ms) (drop n ms) (ap all_end (take-append-drop n ms) ∙ e)

pub rest-chars : (t : List ℕ) (ms : List Mark) (n b : ℕ) (u : List ℕ) (ns : List Mark)
    → begin_chars false t ms ≡ true → sizes (take n ms) ≡ b → u ≡ drop b t → ns ≡ drop n ms
    → begin_chars false u ns ≡ true
rest-chars t ms n b u ns c e f g =
    ap (begin_chars false u) g ∙ ap (λ l. begin_chars false l (drop n ms)) (f ∙ ap (λ i. drop i t) (sym e))
    ∙ chars-behind false t (take n ms) (drop n ms) (ap (begin_chars false t) (take-append-drop n ms) ∙ c)

-- the marks of a node and its end
pub with-end : (ms : List Mark) (n b : ℕ) (d : Mark) → n < length ms → get_or ms n d ≡ mark.Ends
    → sizes (take n ms) ≡ b → sizes (take (n + 1) ms) ≡ b
unfolding sizes
with-end ms n b d i e s = let h = size-more ms n mark.Ends d b i e s in omega arith

pub cut-at-end : (ms : List Mark) (n : ℕ) (d : Mark) → n < length ms → get_or ms n d ≡ mark.Ends
    → ms ≡ take n ms ++ mark.Ends ∷ drop (n + 1) ms
cut-at-end ms n d i e =
    let more : n + 1 ≡ suc n = omega arith in
    sym (take-append-drop (n + 1) ms)
    ∙ ap (λ l. l ++ drop (n + 1) ms)
    (ap (λ k. take k ms) more ∙ take-suc ms n d i ∙ ap (λ x. take n ms ++ x ∷ []) e)
    ∙ append_assoc (take n ms) (mark.Ends ∷ []) (drop (n + 1) ms)

pub begun-ends : (k : Kind) (m : Mark) (all ms : List Mark) → begins_kind k m ≡ true → all ≡ m ∷ ms
    → all_end all ≡ true → is_some (one_less (ended ms)) ≡ true
begun-ends k (mark.Piece n) all ms b a e = absurd cc
begun-ends k (mark.Begins j) all ms b a e = begins-end j ms (sym (ap all_end a) ∙ e)
begun-ends k mark.Ends all ms b a e = absurd cc

-- ---- the answers
pub text-at : (f g : Front) (n b : ℕ) → are_pieces (take n f.marks.now) ≡ true → sizes (take n f.marks.now) ≡ b
    → begins_with_piece (drop n f.marks.now) ≡ false → g.text.now ≡ drop b f.text.now
    → g.marks.now ≡ drop n f.marks.now → TextAt f b g
text-at f g n b p s e x y =
    let t = f.text.now in
    let ms = f.marks.now in
    let ended' = rest-end ms n (drop n ms) f.all_end refl in
    let no-text' = no-text-front (drop b t) (drop n ms) ended' e in
    let same : here g ≡ items_of (drop b t) (drop n ms) =
    ap (λ l. items_of l g.marks.now) x ∙ ap (items_of (drop b t)) y in
    record {
      items =
          ap (items_of t) (sym (take-append-drop n ms)) ∙ text-run t (take n ms) (drop n ms) p
          ∙ ap (λ i. bytes_before (take i t) (items_of (drop i t) (drop n ms))) s
          ∙ bytes-text-before (take b t) (items_of (drop b t) (drop n ms)) no-text'
          ∙ ap (with_text (take b t)) (sym same);
      no_text = ap not_text same ∙ no-text';
      behind = record {
        within = take n ms;
        is = sym (take-append-drop n ms) ∙ ap (λ l. take n ms ++ l) (sym y);
        closed = pieces-close (take n ms) p;
        size = s;
        text_is = x;
      };
      within = taken-fits t ms n b f.whole s;
    }

pub node-is : (k : Kind) (f w g : Front) (n b : ℕ) (d : Mark) → IsWithin k f w → n < length w.marks.now
    → get_or w.marks.now n d ≡ mark.Ends → open_marks (take n w.marks.now) (Some zero) ≡ Some zero
    → sizes (take n w.marks.now) ≡ b → g.text.now ≡ drop b w.text.now → g.marks.now ≡ drop (n + 1) w.marks.now
    → NodeIs k f b g
node-is k f w g n b d h i e c s x y =
    let t = f.text.now in
    let ms = w.marks.now in
    let v = take n ms in
    let ns = drop (n + 1) ms in
    let cut' = cut-at-end ms n d i e in
    let all : f.marks.now ≡ h.first ∷ (v ++ mark.Ends ∷ ns) = h.marks ∙ ap (λ l. h.first ∷ l) cut' in
    let text' : g.text.now ≡ drop b t = x ∙ ap (drop b) h.text in
    let same : here g ≡ items_of (drop (sizes v) t) ns =
    ap (λ l. items_of l g.marks.now) (text' ∙ ap (λ j. drop j t) (sym s)) ∙ ap (items_of (drop (sizes v) t)) y in
    record {
      node = items_of t (v ++ mark.Ends ∷ ns);
      is =
          ap (λ l. node_first k (items_of t l)) all ∙ node-at k t h.first v ns h.begins c
          ∙ ap (λ i. Some (items_of t (v ++ mark.Ends ∷ ns), i)) (sym same);
      text = here-text t v ns c ∙ ap (λ j. take j t) s;
      behind =
          behind-node k t f.marks.now h.first v g.marks.now b g.text.now h.begins
          (all ∙ ap (λ l. h.first ∷ (v ++ mark.Ends ∷ l)) (sym y)) c s text';
      within = (let fits = taken-fits w.text.now ms n b w.whole s in let size = ap length h.text in omega arith);
    }

pub within-is : (k : Kind) (f g : Front) (m : Mark) → begins_kind k m ≡ true → f.marks.now ≡ m ∷ g.marks.now
    → g.text.now ≡ f.text.now → IsWithin k f g
within-is k f g m b a t =
    let h = enters k f.text.now f.marks.now m g.marks.now a b f.all_end in
    record {
      first = m;
      begins = b;
      marks = a;
      text = t;
      others = h.0;
      is = h.1 ∙ ap (λ l. Some (items_of l g.marks.now, h.0)) (sym t);
    }

pub no-end : (ms : List Mark) → length ms ≡ 0 → ends_node ms ≡ false
no-end [] e = refl
no-end (m ∷ ms) e = absurd (omega arith)
