-- `listing::values`: none for the operator, the bound temporaries for the customer.
use Rattle.listing.proofs.Frames.{operators-values, customers-values}
use Rattle.listing.proofs.values.Goals as goal

pub returns-in-Operator : goal.returns-in-Operator
returns-in-Operator c = search operators-values

pub returns-in-Customer : goal.returns-in-Customer
returns-in-Customer c = search customers-values
