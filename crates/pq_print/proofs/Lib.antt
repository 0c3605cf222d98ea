mod Joins
mod Quotes
