mod Chosen
mod EndsWell
mod Further
mod NoChange
mod OneList
