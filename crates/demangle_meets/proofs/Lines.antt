-- What lines do in loops and with inner items: lists, items one after the other, joined references, arrays,
-- parameters.
use Rattle.std.proofs.Common.{◌≡◌, ℕ, zero, suc, Bool, true, false, List, [], ◌∷◌, length, codes, Some, None}
use Rattle.std.proofs.Common.{refl, sym, ◌∙◌, ap, subst}
use Rattle.demangle_core.specs.Core.{Core}
use Rattle.demangle_printing.specs.State.{Held, NotUtf8, yes, no, written, spaced, popped}
use Rattle.demangle_printing.specs.Scope.{Scope, in_member}
use Rattle.demangle_printing.specs.Act.{Act, done, text, space, block, ask}
use Rattle.demangle_printing.specs.Rules.{tag, line_of, lines_of, members_of}
use Rattle.demangle_printing.specs.Rules.{turn_from, turns, is_rvalue, pop_if, rvalue_from, rvalues, is_lvalue_top}
use Rattle.demangle_printing.specs.Rules.{unless, joined}
use Rattle.demangle_printing.specs.Reader.{text_if, input_text}
use Rattle.demangle_printing.specs.Arrays.{Turn, elements, array, turn_node, array_turn, array_from, array_turns}
use Rattle.demangle_printing.specs.Arrays.{before_bounds}
use Rattle.demangle_printing.specs.Parameters.{Wanted, wanted, parameters_in, parameters_act}
use Rattle.std.specs.Str.{is_utf8}
use Rattle.demangle_meets.specs.Page.{Page, at}
use Rattle.demangle_meets.specs.Place.{Place, world_of}
use Rattle.demangle_meets.specs.Calls.{Steps, TakesTop, TakesNone}
use Rattle.demangle_meets.specs.Meets.{Meets, Prints, Inner, Remains, ListRemains, MembersRemain}
use Rattle.demangle_meets.specs.Meets.{TurnsRemain, RvaluesRemain, ArraysRemain}
use Rattle.demangle_meets.proofs.Acts.{meets_done, meets_silent, meets_text, meets_fail, meets_space, meets_block}
use Rattle.demangle_meets.proofs.Acts.{meets_call, meets_ask, meets_pop}

-- ---- texts
-- a word, a number, or characters, apart from what comes behind it
pub meets_said : {p : Place} {a m b : Page} {bs : List ℕ} {k : Act Core} → Steps a m (written bs) → Meets p m b k →
    Meets p a b (block (text bs done) k)
meets_said d q = meets_block (meets_text d meets_done) q

-- bytes of the input that are a text
pub meets_input : {p : Place} {a m b : Page} {k : Act Core} (bs : List ℕ) → is_utf8 bs ≡ true →
    Steps a m (written bs) → Meets p m b k → Meets p a b (block (input_text bs) k)
meets_input {p} {a} {m} bs e d q =
    meets_block (subst (λ v. Meets p a m (text_if v bs)) (sym e) (meets_text d meets_done)) q

-- and that are none
pub meets_no_text : {p : Place} {a m b : Page} {k : Act Core} (bs : List ℕ) → is_utf8 bs ≡ false →
    Steps a m (λ s. no [] NotUtf8) → Meets p m b k → Meets p a b (block (input_text bs) k)
meets_no_text {p} {a} {m} bs e d q =
    meets_block (subst (λ v. Meets p a m (text_if v bs)) (sym e) (meets_fail d)) q

-- ---- what remains of an act: in loops, and where branches join before the rest of a line
pub remains_all : {p : Place} {a : Page} {f : Act Core} → Remains p a a f f
remains_all = record { rest = λ b d. d }

-- the rest is done
pub meets_rest : {p : Place} {a c b : Page} {f g : Act Core} → Remains p a c f g → Meets p c b g → Meets p a b f
meets_rest {b = b} w d = w.rest b d

-- nothing remains
pub meets_whole : {p : Place} {a c : Page} {f : Act Core} → Remains p a c f done → Meets p a c f
meets_whole {c = c} w = w.rest c meets_done

pub then_text : {p : Place} {a c d : Page} {f g : Act Core} {bs : List ℕ} → Remains p a c f (text bs g) →
    Steps c d (written bs) → Remains p a d f g
then_text w e = record { rest = λ b q. w.rest b (meets_text e q) }

pub then_space : {p : Place} {a c d : Page} {f g : Act Core} → Remains p a c f (space g) → Steps c d spaced →
    Remains p a d f g
then_space w e = record { rest = λ b q. w.rest b (meets_space e q) }

pub then_block : {p : Place} {a c d : Page} {f g h : Act Core} → Remains p a c f (block h g) → Meets p c d h →
    Remains p a d f g
then_block w e = record { rest = λ b q. w.rest b (meets_block e q) }

pub then_part : {p : Place} {a c d : Page} {x : Core} {sc : Scope Core} {f g : Act Core} →
    Remains p a c f (block (line_of (world_of p.refers) (Some x) sc) g) → Prints p c d x sc → Remains p a d f g
then_part w e = record { rest = λ b q. w.rest b (meets_block e.meets q) }

-- ---- lists
-- the first of a list
pub first_of_list : {p : Place} {a m : Page} {x : Core} {sc : Scope Core} (xs : List Core) → Prints p a m x sc →
    ListRemains p a m (lines_of (world_of p.refers) (x ∷ xs) sc) xs sc
first_of_list xs d = record { remains = then_part remains_all d }

-- and each further one, behind a comma
pub next_of_list : {p : Place} {a c d e : Page} {x : Core} {xs : List Core} {sc : Scope Core} {f : Act Core} →
    ListRemains p a c f (x ∷ xs) sc → Steps c d (written (codes ", ")) → Prints p d e x sc → ListRemains p a e f xs sc
next_of_list w s d = record { remains = then_part (then_text w.remains s) d }

pub list_ends : {p : Place} {a c : Page} {sc : Scope Core} {f : Act Core} → ListRemains p a c f [] sc → Meets p a c f
list_ends w = meets_whole w.remains

-- the same of template arguments, each in the scope of its member
pub first_of_members : {p : Place} {a m : Page} {x : Core} {sc : Scope Core} (list : ℕ) (xs : List Core) →
    Prints p a m x (in_member 0 list sc) →
    MembersRemain p a m (members_of (world_of p.refers) list (x ∷ xs) sc) 1 list xs sc
first_of_members list xs d = record { remains = then_part remains_all d }

pub next_of_members : {p : Place} {a c d e : Page} {x : Core} {xs : List Core} {sc : Scope Core} {f : Act Core}
    {n list : ℕ} → MembersRemain p a c f n list (x ∷ xs) sc → Steps c d (written (codes ", ")) →
    Prints p d e x (in_member n list sc) → MembersRemain p a e f (suc n) list xs sc
next_of_members w s d = record { remains = then_part (then_text w.remains s) d }

pub members_end : {p : Place} {a c : Page} {sc : Scope Core} {f : Act Core} {n list : ℕ} →
    MembersRemain p a c f n list [] sc → Meets p a c f
members_end w = meets_whole w.remains

-- ---- inner items
-- what of the top item stands behind, where there is one
pub meets_take : {p : Place} {sc : Scope Core} {a m n b : Page} {h : Held Core} {hs : List (Held Core)} {k : Act Core}
    → (a.trouble ≡ None → a.inner ≡ h ∷ hs) → Steps a m (λ s. yes [] (popped s)) → Inner p m n h.item sc →
    Meets p n b k → Meets p a b (ask (λ s. turn_from (world_of p.refers) s.inner sc done) k)
meets_take {p} {sc} top d i q =
    meets_ask (λ z. ap (λ y. turn_from (world_of p.refers) y sc done) (top z)) (meets_pop d i.meets) q

pub meets_take_none : {p : Place} {a b : Page} {k : Act Core} (sc : Scope Core) → (a.trouble ≡ None → a.inner ≡ []) →
    Meets p a b k → Meets p a b (ask (λ s. turn_from (world_of p.refers) s.inner sc done) k)
meets_take_none {p} sc none q =
    meets_ask (λ z. ap (λ y. turn_from (world_of p.refers) y sc done) (none z)) meets_done q

-- the same of the call that pops it
pub meets_taken : {p : Place} {sc : Scope Core} {a m n b : Page} {x : Core} {k : Act Core} → TakesTop a m x →
    Inner p m n x sc → Meets p n b k → Meets p a b (ask (λ s. turn_from (world_of p.refers) s.inner sc done) k)
meets_taken {p} {sc} {a} {m} {n} d i q =
    meets_take d.top d.step (subst (λ z. Inner p m n z sc) (sym d.is) i) q

pub meets_taken_none : {p : Place} {a m b : Page} {k : Act Core} (sc : Scope Core) → TakesNone a m → Meets p m b k →
    Meets p a b (ask (λ s. turn_from (world_of p.refers) s.inner sc done) k)
meets_taken_none sc d q = meets_take_none sc d.none (meets_silent d.step q)

-- each item, from the top, until none is left
pub turns_all : {p : Place} {a : Page} {sc : Scope Core} (n : ℕ) →
    TurnsRemain p a a (turns (world_of p.refers) n sc) n sc
turns_all n = record { remains = remains_all }

turns_none : (p : Place) (sc : Scope Core) (n : ℕ) {a : Page} → (a.trouble ≡ None → a.inner ≡ []) →
    Meets p a a (turns (world_of p.refers) n sc)
turns_none p sc zero e = meets_done
turns_none p sc (suc n) e =
    meets_ask (λ z. ap (λ y. turn_from (world_of p.refers) y sc (turns (world_of p.refers) n sc)) (e z))
    meets_done meets_done

pub turns_end : {p : Place} {a c : Page} {n : ℕ} {sc : Scope Core} {f : Act Core} → TurnsRemain p a c f n sc →
    (c.trouble ≡ None → c.inner ≡ []) → Meets p a c f
turns_end {p} {n = n} {sc = sc} w e = meets_rest w.remains (turns_none p sc n e)

pub turns_over : {p : Place} {a c : Page} {sc : Scope Core} {f : Act Core} → TurnsRemain p a c f 0 sc → Meets p a c f
turns_over w = meets_whole w.remains

pub then_turn : {p : Place} {sc : Scope Core} {a c d e : Page} {n : ℕ} {h : Held Core} {hs : List (Held Core)}
    {f : Act Core} → TurnsRemain p a c f (suc n) sc → (c.trouble ≡ None → c.inner ≡ h ∷ hs) →
    Steps c d (λ s. yes [] (popped s)) → Inner p d e h.item sc → TurnsRemain p a e f n sc
then_turn {p} {sc} {n = n} w top s i =
    record {
      remains = record {
        rest = λ b q. meets_rest w.remains
            (meets_ask (λ z. ap (λ y. turn_from (world_of p.refers) y sc (turns (world_of p.refers) n sc)) (top z))
            (meets_pop s (meets_call i.meets q)) meets_done);
      };
    }

-- the same of the call that pops it
pub turn_taken : {p : Place} {sc : Scope Core} {a c d e : Page} {n : ℕ} {x : Core} {f : Act Core} →
    TurnsRemain p a c f (suc n) sc → TakesTop c d x → Inner p d e x sc → TurnsRemain p a e f n sc
turn_taken {p} {sc} {d = d} {e = e} w t i =
    then_turn w t.top t.step (subst (λ z. Inner p d e z sc) (sym t.is) i)

pub turns_taken : {p : Place} {a c d : Page} {n : ℕ} {sc : Scope Core} {f : Act Core} → TurnsRemain p a c f n sc →
    TakesNone c d → Meets p a d f
turns_taken {p} {n = n} {sc = sc} w t =
    meets_rest w.remains (meets_turns_none p sc n t)
  where
    meets_turns_none : (p : Place) (sc : Scope Core) (n : ℕ) {a b : Page} → TakesNone a b →
        Meets p a b (turns (world_of p.refers) n sc)
    meets_turns_none p sc zero t = meets_silent t.step meets_done
    meets_turns_none p sc (suc n) t =
        meets_ask (λ z. ap (λ y. turn_from (world_of p.refers) y sc (turns (world_of p.refers) n sc)) (t.none z))
        (meets_silent t.step meets_done) meets_done

-- ---- references that are joined
-- what is done for the top item, of which it is known whether it is a right reference
rvalue_at : (p : Place) (n : ℕ) (a : Page) {h : Held Core} {hs : List (Held Core)} {v : Bool} →
    (a.trouble ≡ None → a.inner ≡ h ∷ hs) → is_rvalue (world_of p.refers) (tag (world_of p.refers) h.item) ≡ v →
    a.trouble ≡ None →
    rvalue_from (world_of p.refers) (at p.level a).inner (rvalues (world_of p.refers) n)
    ≡ pop_if (world_of p.refers) v (rvalues (world_of p.refers) n)
rvalue_at p n a top is z =
    ap (λ y. rvalue_from (world_of p.refers) y (rvalues (world_of p.refers) n)) (top z)
    ∙ ap (λ u. pop_if (world_of p.refers) u (rvalues (world_of p.refers) n)) is

pub rvalues_all : {p : Place} {a : Page} (n : ℕ) → RvaluesRemain p a a (rvalues (world_of p.refers) n) n
rvalues_all n = record { remains = remains_all }

rvalues_none : (p : Place) (n : ℕ) {a : Page} → (a.trouble ≡ None → a.inner ≡ []) →
    Meets p a a (rvalues (world_of p.refers) n)
rvalues_none p zero e = meets_done
rvalues_none p (suc n) e =
    meets_ask (λ z. ap (λ y. rvalue_from (world_of p.refers) y (rvalues (world_of p.refers) n)) (e z))
    meets_done meets_done

rvalues_stop : (p : Place) (n : ℕ) {a : Page} {h : Held Core} {hs : List (Held Core)} →
    (a.trouble ≡ None → a.inner ≡ h ∷ hs) →
    is_rvalue (world_of p.refers) (tag (world_of p.refers) h.item) ≡ false →
    Meets p a a (rvalues (world_of p.refers) n)
rvalues_stop p zero top is = meets_done
rvalues_stop p (suc n) {a} top is = meets_ask (rvalue_at p n a top is) meets_done meets_done

-- no item is left
pub rvalues_end : {p : Place} {a c : Page} {n : ℕ} {f : Act Core} → RvaluesRemain p a c f n →
    (c.trouble ≡ None → c.inner ≡ []) → Meets p a c f
rvalues_end {p} {n = n} w e = meets_rest w.remains (rvalues_none p n e)

-- another item is on top
pub rvalues_other : {p : Place} {a c : Page} {n : ℕ} {f : Act Core} {h : Held Core} {hs : List (Held Core)} →
    RvaluesRemain p a c f n → (c.trouble ≡ None → c.inner ≡ h ∷ hs) →
    is_rvalue (world_of p.refers) (tag (world_of p.refers) h.item) ≡ false → Meets p a c f
rvalues_other {p} {n = n} w top is = meets_rest w.remains (rvalues_stop p n top is)

pub rvalues_over : {p : Place} {a c : Page} {f : Act Core} → RvaluesRemain p a c f 0 → Meets p a c f
rvalues_over w = meets_whole w.remains

pub then_rvalue : {p : Place} {a c d : Page} {n : ℕ} {h : Held Core} {hs : List (Held Core)} {f : Act Core} →
    RvaluesRemain p a c f (suc n) → (c.trouble ≡ None → c.inner ≡ h ∷ hs) →
    is_rvalue (world_of p.refers) (tag (world_of p.refers) h.item) ≡ true → Steps c d (λ s. yes [] (popped s)) →
    RvaluesRemain p a d f n
then_rvalue {p} {c = c} {n = n} w top is s =
    record {
      remains = record {
        rest = λ b q. meets_rest w.remains (meets_ask (rvalue_at p n c top is) (meets_pop s q) meets_done);
      };
    }

-- Right references are taken; where no left one is then on top, the reference is written.
pub meets_joined : {p : Place} {a m n b : Page} {body k : Act Core} (v : Bool) →
    Meets p a m (rvalues (world_of p.refers) (length a.inner)) →
    (m.trouble ≡ None → is_lvalue_top (world_of p.refers) m.inner ≡ v) →
    Meets p m n (unless (world_of p.refers) v body) → Meets p n b k →
    Meets p a b (joined (world_of p.refers) body k)
meets_joined {p} {body = body} v d e q r =
    meets_ask (λ _. refl) d (meets_ask (λ z. ap (λ u. unless (world_of p.refers) u body) (e z)) q r)

-- ---- arrays
pub arrays_all : {p : Place} {a : Page} {sc : Scope Core} (n : ℕ) (v : Bool) →
    ArraysRemain p a a (array_turns (world_of p.refers) n sc v) n v sc
arrays_all n v = record { remains = remains_all }

arrays_none : (p : Place) (sc : Scope Core) (n : ℕ) (v : Bool) {a b : Page} → (a.trouble ≡ None → a.inner ≡ []) →
    Meets p a b (before_bounds (world_of p.refers) v) → Meets p a b (array_turns (world_of p.refers) n sc v)
arrays_none p sc zero v e d = d
arrays_none p sc (suc n) v e d =
    meets_ask
    (λ z. ap (λ y. array_from (world_of p.refers) y sc v (λ u. array_turns (world_of p.refers) n sc u)) (e z))
    d meets_done

-- the top item is of this kind, and what is done for it
arrays_top : (p : Place) (sc : Scope Core) (n : ℕ) (v : Bool) (t : Turn) {a b : Page} {h : Held Core}
    {hs : List (Held Core)} → (a.trouble ≡ None → a.inner ≡ h ∷ hs) →
    turn_node (world_of p.refers) h.item (tag (world_of p.refers) h.item) ≡ t →
    Meets p a b (array_turn (world_of p.refers) t h.item sc v (λ u. array_turns (world_of p.refers) n sc u)) →
    Meets p a b (array_turns (world_of p.refers) (suc n) sc v)
arrays_top p sc n v t {h = h} top is d =
    meets_ask
    (λ z. ap (λ y. array_from (world_of p.refers) y sc v (λ u. array_turns (world_of p.refers) n sc u)) (top z)
    ∙ ap (λ k. array_turn (world_of p.refers) k h.item sc v (λ u. array_turns (world_of p.refers) n sc u)) is)
    d meets_done

-- No item is left: the space before the bounds, which falls away behind other bounds.
pub arrays_end : {p : Place} {a c b : Page} {n : ℕ} {v : Bool} {sc : Scope Core} {f : Act Core} →
    ArraysRemain p a c f n v sc → (c.trouble ≡ None → c.inner ≡ []) →
    Meets p c b (before_bounds (world_of p.refers) v) → Meets p a b f
arrays_end {p} {n = n} {v = v} {sc = sc} w e d = meets_rest w.remains (arrays_none p sc n v e d)

pub arrays_over : {p : Place} {a c b : Page} {v : Bool} {sc : Scope Core} {f : Act Core} →
    ArraysRemain p a c f 0 v sc → Meets p c b (before_bounds (world_of p.refers) v) → Meets p a b f
arrays_over w d = meets_rest w.remains d

-- Any other item than an array ends it: all items that wait, in parentheses. `t` says where the parentheses are.
pub arrays_other : {p : Place} {a c b : Page} {n : ℕ} {v : Bool} {sc : Scope Core} {f : Act Core} {h : Held Core}
    {hs : List (Held Core)} (t : Turn) → ArraysRemain p a c f (suc n) v sc →
    (c.trouble ≡ None → c.inner ≡ h ∷ hs) →
    turn_node (world_of p.refers) h.item (tag (world_of p.refers) h.item) ≡ t →
    Meets p c b (array_turn (world_of p.refers) t h.item sc v (λ u. array_turns (world_of p.refers) n sc u)) →
    Meets p a b f
arrays_other {p} {n = n} {v = v} {sc = sc} t w top is d = meets_rest w.remains (arrays_top p sc n v t top is d)

-- Other elements are an array.
pub then_elements : {p : Place} {a c d e : Page} {n : ℕ} {v : Bool} {sc : Scope Core} {f : Act Core} {h : Held Core}
    {hs : List (Held Core)} → ArraysRemain p a c f (suc n) v sc → (c.trouble ≡ None → c.inner ≡ h ∷ hs) →
    turn_node (world_of p.refers) h.item (tag (world_of p.refers) h.item) ≡ elements →
    Steps c d (λ s. yes [] (popped s)) → Inner p d e h.item sc → ArraysRemain p a e f n v sc
then_elements {p} {n = n} {v = v} {sc = sc} w top is s i =
    record {
      remains = record {
        rest = λ b q. meets_rest w.remains
            (arrays_top p sc n v elements top is (meets_pop s (meets_call i.meets q)));
      };
    }

-- Other bounds stand before these.
pub then_array : {p : Place} {a c d e : Page} {n : ℕ} {v : Bool} {sc : Scope Core} {f : Act Core} {h : Held Core}
    {hs : List (Held Core)} → ArraysRemain p a c f (suc n) v sc → (c.trouble ≡ None → c.inner ≡ h ∷ hs) →
    turn_node (world_of p.refers) h.item (tag (world_of p.refers) h.item) ≡ array →
    Steps c d (λ s. yes [] (popped s)) → Inner p d e h.item sc → ArraysRemain p a e f n false sc
then_array {p} {n = n} {v = v} {sc = sc} w top is s i =
    record {
      remains = record {
        rest = λ b q. meets_rest w.remains (arrays_top p sc n v array top is (meets_pop s (meets_call i.meets q)));
      };
    }

-- ---- parameters
-- the parentheses around what waits are wanted so
pub meets_parameters : {p : Place} {a b : Page} (types : List Core) (sc : Scope Core) (v : Wanted) →
    (a.trouble ≡ None → wanted (world_of p.refers) a.inner ≡ v) →
    Meets p a b (parameters_in (world_of p.refers) v types sc) →
    Meets p a b (parameters_act (world_of p.refers) types sc)
meets_parameters {p} types sc v e d =
    meets_ask (λ z. ap (λ y. parameters_in (world_of p.refers) y types sc) (e z)) d meets_done
