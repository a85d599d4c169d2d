-- Pages after changes.
use Rattle.std.specs.Prelude.{◌≡◌, List, ◌++◌, Option}
use Rattle.std.specs.declared.cmp.Ordering.{Ordering}
use Rattle.page_model.specs.Changed.{with_changes}
use Rattle.page_model.specs.Kept.{KeepsPages}
use Rattle.page_model.specs.Page.{ArePages, joined}

-- pages of these items come behind others
pub record AddsPages {T : Type 0} (wanted : List T) (before after : List (List T)) : Type 0 where
  pub new : List (List T)
  pub behind : after ≡ before ++ new
  pub pages : ArePages new
  pub items : joined new ≡ wanted

-- old pages come behind others as changes make them: with the items that the changes leave, and each page into which no
-- changed key falls as it was
pub record AddsChanged {T K C : Type 0} (key_of : T → K) (cmp : K → K → Ordering) (changed : C → K) (put : C → Option T) (old : List (List T)) (changes : List C) (before after : List (List T)) : Type 0 where
  pub new : List (List T)
  pub behind : after ≡ before ++ new
  pub pages : ArePages new
  pub items : joined new ≡ with_changes key_of cmp changed put changes (joined old)
  pub kept : KeepsPages key_of cmp changed old changes new
