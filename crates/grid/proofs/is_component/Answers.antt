-- `is_component`: each arm is a case of the definition.
use mathlib.Core.Path.{refl}
use borrow.Author.Rules.{rules}
use Rattle.grid.proofs.is_component.Goals as goal

pub enum_told-1 : goal.enum_told-1
enum_told-1 c = search rules

pub enum_known-quantity : goal.enum_known-quantity
enum_known-quantity c = search rules

pub returns-in-Value : goal.returns-in-Value
returns-in-Value c = search rules

pub returns-in-Component : goal.returns-in-Component
returns-in-Component c = rw c.in-Component.is refl
